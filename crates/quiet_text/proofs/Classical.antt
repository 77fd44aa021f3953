-- A text without a line for a transition: the classical problem, answered with products.
use mathlib.Core.Path.{◌≡◌, ◌∙◌}
use mathlib.Core.List.{List, [], ◌∷◌}
use Rattle.std.specs.Prelude.{Option}
use Prim.Native.Nat.{ℕ, zero, suc, ◌^◌, ◌≤◌}
use native.Mathlib.Omega.{arith}
use lib.Dec.{T}
use lib.ListN.{length}
use Rattle.hazard.specs.Transition.{value}
use Rattle.hazard.specs.Cover.{Network}
use Rattle.hazard.specs.Sequence.{ascending}
use Rattle.hazard.specs.Refusal.{input_checks, Accepted}
use Rattle.hazard.specs.Minimal.{blocking}
use Rattle.hazard.specs.Classical.{IrredundantCover}
use Rattle.hazard.proofs.Search.{first_of-right, first_of-one}
use Rattle.hazard.proofs.Classical.{function_checks_lem, function_taken, nothing_blocks, minimal_irredundant}
use Rattle.problem_text.specs.Form.{Values, Form}
use Rattle.writing.specs.Output.{network_text, most_output}
use Rattle.quiet_text.specs.Answer.{Printed, Replied}

-- The values of a text's table, by another default past its end.
table-values : (f : List ℕ) → Values f → (x : ℕ) → value f x ≤ 2
table-values [] h x = omega arith
table-values (d ∷ f) h zero = h 0
table-values (d ∷ f) h (suc x) = table-values f (λ y. h (suc y)) x

-- With 1 to 10 inputs and a value for each point it is an irredundant cover by prime implicants, in sequence, that is printed.
pub replied_classical : {text before after : List ℕ} {r : Option ℕ} → Replied text before after r → most_output ≤ length before
    → (n : ℕ) (f : List ℕ) → Form text n f [] → 1 ≤ n → n ≤ 10 → length f ≡ 2 ^ n
    → (net : Network) × IrredundantCover n f net × T (ascending net) × Printed before (network_text net) after r
replied_classical s room n f form low high whole =
    let (net, m, w) = (s.solved room n f [] form).network (first_of-right (input_checks n f []) (blocking n f [] ∷ []) accepted ∙ first_of-one (blocking n f []) ∙ nothing_blocks n f) in
    let (c, a) = (minimal_irredundant n f net accepted).0 m in
    (net, c, a, w)
  where
    accepted : Accepted n f []
    accepted = function_checks_lem n f ∙ (function_taken n f).1 (low, high, whole, table-values f form.values)
