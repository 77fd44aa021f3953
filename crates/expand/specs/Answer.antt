-- The definitions' answers, for the code's.
use Rattle.std.specs.Prelude.{◌≡◌, ℕ, ◌≤◌}
use Rattle.hazard.specs.Cube as digits
use Rattle.hazard.specs.Sets.{Required}
use Rattle.hazard.specs.Refusal.{Refusal, growth_refusal}
use Rattle.hazard.specs.Growth as spec
use Rattle.cube.specs.Mask.{cube_of, Clean}
use Rattle.context.specs.declared.context.Context.{Context}
use Rattle.context.specs.Context.{off_in, privileged_of}
use Rattle.expand.specs.declared.growth.Grown.{Grown}
use Rattle.expand.specs.declared.growth.Grown.TheVariants.{Legal, Blocked}

abbrev pub grown_of : ℕ → Grown → spec.Growth
grown_of n (Legal c s) = spec.Legal (cube_of n c) s
grown_of n (Blocked z s) = spec.Blocked z s

-- The zero that growth ended at; 0 where it ended legal.
abbrev pub zero_of : spec.Growth → ℕ
zero_of (spec.Legal c s) = 0
zero_of (spec.Blocked z s) = z

-- Refusal 10 for a required cube whose growth ended so.
abbrev pub block_refusal : Required → spec.Growth → Refusal
block_refusal r g = growth_refusal 10 r.transition r.label (spec.steps g) (zero_of g)

-- The masks of a legal answer are those of a cube of n inputs.
abbrev pub LegalClean : ℕ → Grown → Type 0
LegalClean n (Legal c s) = Clean n c
LegalClean n (Blocked z s) = Unit {0}

-- The answer r of the growth of a cube, by a context.
pub record Grows (k : Context) (c : digits.Cube) (r : Grown) : Type 0 where
  pub is : grown_of k.n.count r ≡ spec.grow k.n.count (off_in k) (privileged_of k) c
  pub few : spec.steps (grown_of k.n.count r) ≤ k.n.count
  pub clean : LegalClean k.n.count r
