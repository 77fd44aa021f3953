use Rattle.std.proofs.Common.{◌≡◌, ◌≤◌, None, length, take, refl, arith, rules}
use Rattle.problem_text.specs.Read.{Reading, malformed}
use Rattle.problem_text.proofs.Readings.{shorter-field, shorter-table, too_long, no_inputs, no_table, empty_table, other-lines, reading_whole, lines_other}
use Rattle.problem_text.proofs.read.read_problem.Goals as goal

pub returns-then-text-gt4096 : goal.returns-then-text-gt4096
returns-then-text-gt4096 c = malformed (too_long c.args.text.now (omega arith))

pub returns-in_err-n : goal.returns-in_err-n
returns-in_err-n c =
    let a = c.args in
    let m : Reading a.text.now a.table.now a.transitions.now None = malformed (no_inputs a.text.now c.in_err-n.ensures) in
    search (rules, m)

pub table_into-requires : goal.table_into-requires
table_into-requires c = omega (arith, shorter-field 10 c.args.text.now c.in_ok-n.after.now c.in_ok-n.ensures)

pub returns-in_err-table_length : goal.returns-in_err-table_length
returns-in_err-table_length c =
    let a = c.args in
    let i = c.in_ok-n in
    let m : Reading a.text.now c.table_into.new.table a.transitions.now None = malformed (no_table a.text.now i.n i.after.now i.ensures c.in_err-table_length.ensures.read) in
    search (rules, m)

pub returns-then-table_length-eq0 : goal.returns-then-table_length-eq0
returns-then-table_length-eq0 c =
    let text = c.args.text.now in
    let i = c.in_ok-n in
    let k = c.in_ok-table_length in
    let table = take k.table_length c.table_into.new.table in
    let none : length table ≡ 0 = rw c.if-table_length-eq0.true refl in
    malformed (empty_table text i.n i.after.now i.ensures table k.lines.now k.ensures.read none)

pub transitions_into-requires : goal.transitions_into-requires
transitions_into-requires c =
    let i = c.in_ok-n in
    let k = c.in_ok-table_length in
    let few : length k.lines.now ≤ 4096 = omega (arith, shorter-field 10 c.args.text.now i.after.now i.ensures, shorter-table i.after.now k.lines.now k.ensures.read) in
    search rules

pub returns-in_err-count : goal.returns-in_err-count
returns-in_err-count c =
    let text = c.args.text.now in
    let i = c.in_ok-n in
    let k = c.in_ok-table_length in
    let table = c.table_into.new.table in
    let m : Reading text table c.transitions_into.new.transitions None =
    malformed (other-lines text i.n i.after.now i.ensures (take k.table_length table) k.lines.now k.ensures.read (lines_other c.in_err-count.ensures)) in
    search (rules, m)

pub returns : goal.returns
returns c =
    let text = c.args.text.now in
    let i = c.in_ok-n in
    let k = c.in_ok-table_length in
    rw c.from.ensures (reading_whole text c.table_into.new.table i.n i.after.now i.ensures k.table_length k.lines.now k.ensures.read (omega arith) (omega arith) k.ensures.within c.in_ok-count.ensures)
