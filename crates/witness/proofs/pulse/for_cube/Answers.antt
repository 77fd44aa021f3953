use mathlib.Core.Path.{◌≡◌, refl, ap}
use mathlib.Core.Bool.{false}
use native.Mathlib.Omega.{arith}
use Rattle.hazard.specs.Shown.{is_high}
use Rattle.kinds.specs.Codes.{kind_is}
use Rattle.kinds.specs.declared.kind.Kind.{Kind}
use Rattle.kinds.specs.declared.kind.Kind.TheVariants.{Low, Rise, Fall, High}
use Rattle.witness.proofs.Shows.{other_run, high_run}
use Rattle.witness.proofs.pulse.for_cube.Goals as goal

-- A transition of another kind is not from 1 to 1.
other_kind : (k : Kind) → (k ≡ High → ⊥) → is_high (kind_is k) ≡ false
other_kind Low h = refl
other_kind Rise h = refl
other_kind Fall h = refl
other_kind High h = absurd (h refl)

pub returns-in_default : goal.returns-in_default
returns-in_default c planes n r x net = other_run r net c.args.k (omega arith) c.pulse_at-p.ensures x (other_kind c.pulse_at-p.result.kind c.in_default.not-High)

pub returns : goal.returns
returns c planes n r x net = high_run r net c.args.k (omega arith) c.pulse_at-p.ensures x (ap kind_is c.in-High.is)
