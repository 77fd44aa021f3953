-- What is mapped is nothing exactly if it was nothing before, and something exactly if it was something before.
use mathlib.Core.Path.{◌≡◌, refl, sym, ap, ◌∙◌}
use mathlib.Core.Logic.{◌↔◌}
use Rattle.std.specs.Prelude.{Option, None, Some, option_map}
use Rattle.std.proofs.lemmas.Option.{same_Some}
use Rattle.hazard.proofs.Search.{none-some}

pub map-eq-none_iff : {A B : Type 0} (f : A → B) (x : Option A) → option_map f x ≡ None ↔ (x ≡ None)
map-eq-none_iff f None = (λ _. refl, λ _. refl)
map-eq-none_iff f (Some a) = (λ e. none-some (sym e), λ e. none-some (sym e))

pub map-eq-some_iff : {A B : Type 0} (f : A → B) (x : Option A) {b : B} → option_map f x ≡ Some b ↔ ((a : A) × (x ≡ Some a) × (f a ≡ b))
map-eq-some_iff f None {b} = (λ e. none-some e, λ t. none-some t.1)
map-eq-some_iff {B = B} f (Some a) {b} = (λ e. (a, refl, same_Some (f a) b e), λ t. ap {B = Option B} Some (ap f (same_Some a t.0 t.1) ∙ t.2))
