use mathlib.Core.Path.{sym, ap, ◌∙◌}
use Prim.Native.Nat.{ℕ}
use native.Mathlib.Omega.{arith}
use Rattle.hazard.specs.Cube.{span}
use Rattle.kinds.specs.Codes.{kind_is}
use Rattle.entries.proofs.Filling.{stored_word}
use Rattle.cube.proofs.Word.{packed_clean}
use Rattle.sets.proofs.Word.{word-privileged}
use Rattle.sets.proofs.Gather.{start-lt, stored_yes}
use Rattle.sets.proofs.privileged.store_privileged.Goals as goal

pub returns-then-is_dynamic-clause-stored : goal.returns-then-is_dynamic-clause-stored
returns-then-is_dynamic-clause-stored c =
    let a = c.args in
    let x = a.ends in
    let e = c.start_point.ensures in
    let p = c.push.ensures in
    stored_yes (sym c.is_dynamic.ensures ∙ c.if-is_dynamic.true)
    (rw (p.stored, p.counted) (stored_word a.out.now.room.now a.out.now.next c.pack.result (packed_clean c.pack.ensures c.span_of.ensures (omega (arith, e, start-lt (kind_is a.k) x.start x.end c.requires.0 c.requires.1)))
    (word-privileged c.pack.ensures c.span_of.ensures ∙ ap (λ (y : ℕ). record { transition = a.t; cube = span a.n.count x.start x.end; start = y }) e)))
