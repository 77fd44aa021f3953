use Prim.Native.Nat.{◌<◌}
use native.Mathlib.Omega.{arith}
use Rattle.std.proofs.Common.{rules}
use Rattle.std.proofs.lemmas.List.{set-get_or}
use Rattle.writing.proofs.Numbers.{decimal_spelled}
use Rattle.writing.proofs.put.put_number.Goals as goal

pub returns : goal.returns
returns c =
    let small : c.args.x < 65536 = search rules in
    rw (← decimal_spelled 4 c.args.x (omega arith) small) (search (rules, set-get_or))
