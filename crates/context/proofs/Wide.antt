-- The privileged cubes of a context are cubes of its inputs.
use mathlib.Core.Path.{subst}
use mathlib.Core.List.Memᴰ
use Rattle.hazard.specs.Sets.{Privileged}
use Rattle.hazard.proofs.Cube.{Digits}
use Rattle.hazard.proofs.Implicant.{Wide}
use Rattle.cube.specs.Entry.{privileged_in}
use Rattle.cube.proofs.Digits.{masks_digits}
use Rattle.context.specs.declared.context.Context.{Context}
use Rattle.context.specs.Context.{privileged_words, privileged_of}

pub context_wide : (k : Context) → Wide k.n.count (privileged_of k)
context_wide k v m = let (w, u, e) = Memᴰ.of_map (privileged_in k.n.count) (privileged_words k) m in subst (λ (x : Privileged). Digits k.n.count x.cube) e (masks_digits k.n.count _ _)
