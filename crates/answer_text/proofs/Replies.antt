-- The parts of an answer, one after another.
use mathlib.Core.Path.{◌≡◌, subst}
use mathlib.Core.List.{List, [], ◌∷◌, ◌++◌, append_assoc}
use Prim.Native.Nat.{ℕ, ◌+◌, ◌*◌, ◌≤◌}
use native.Mathlib.Nat.{mul-le-mul}
use native.Mathlib.Omega.{arith}
use lib.ListN.{length, length-append}
use Rattle.hazard.specs.Limits.{most_required}
use Rattle.hazard.specs.Refusal.{Refusal}
use Rattle.problem_text.specs.Decimal.{decimal}
use Rattle.problem_text.specs.Form.{newline}
use Rattle.problem_text.proofs.Decimal.{spelled-length}
use Rattle.writing.specs.Output.{products_head, refused_head, field, refusal_text}
use Rattle.writing.specs.Put.{Put}

-- At most a line of 11 bytes for each required cube.
pub lines_most : (n count : ℕ) → n ≤ 10 → count ≤ most_required → count * (n + 1) ≤ 11 * most_required
lines_most n count h l = let s : n + 1 ≤ 11 = omega arith in mul-le-mul l s

-- The text of any refusal fits in 38 bytes.
pub refusal-length : (q : Refusal) → length (refusal_text q) ≤ 38
refusal-length q =
    omega (
      arith,
      length-append (decimal q.number) (field q.transition ++ (field q.point ++ (field q.steps ++ (field q.lowest ++ (newline ∷ []))))),
      length-append (decimal q.transition) (field q.point ++ (field q.steps ++ (field q.lowest ++ (newline ∷ [])))),
      length-append (decimal q.point) (field q.steps ++ (field q.lowest ++ (newline ∷ []))),
      length-append (decimal q.steps) (field q.lowest ++ (newline ∷ [])),
      length-append (decimal q.lowest) (newline ∷ []),
      spelled-length 5 q.number,
      spelled-length 5 q.transition,
      spelled-length 5 q.point,
      spelled-length 5 q.steps,
      spelled-length 5 q.lowest,
    )

regroup : (a b c d e f g : List ℕ) → (((((a ++ b) ++ c) ++ d) ++ e) ++ f) ++ g ≡ a ++ (b ++ (c ++ (d ++ (e ++ (f ++ g)))))
regroup a b c d e f g = simp append_assoc

module _ {before after : List ℕ} {k : ℕ} where
  -- The head, the count, the end of the line and the lines.
  pub network_put : (count : ℕ) (lines : List ℕ) → Put before (((products_head ++ decimal count) ++ (newline ∷ [])) ++ lines) after k → Put before (products_head ++ (decimal count ++ (newline ∷ lines))) after k
  network_put count lines p = subst (λ (l : List ℕ). Put before l after k) (regroup [] [] [] products_head (decimal count) (newline ∷ []) lines) p

  -- The head, the five fields and the end of the line.
  pub refusal_put : (q : Refusal) → Put before ((((((refused_head ++ field q.number) ++ field q.transition) ++ field q.point) ++ field q.steps) ++ field q.lowest) ++ (newline ∷ [])) after k
      → Put before (refusal_text q) after k
  refusal_put q p = subst (λ (l : List ℕ). Put before l after k) (regroup refused_head (field q.number) (field q.transition) (field q.point) (field q.steps) (field q.lowest) (newline ∷ [])) p
