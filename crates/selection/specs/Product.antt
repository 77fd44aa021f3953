-- What holds of a product on its way to be chosen.
use Rattle.std.specs.Prelude.{◌≡◌, Bool, ℕ, T, Some, Result, Ok, Err}
use Rattle.hazard.specs.Cube as digits
use Rattle.hazard.specs.Cube.{inside}
use Rattle.hazard.specs.Implicant.{dhf_implicant, DhfPrime}
use Rattle.hazard.specs.Minimal.{block_check}
use Rattle.context.specs.declared.context.Context.{Context}
use Rattle.context.specs.Context.{off_in, privileged_of}
use Rattle.cube.specs.declared.mask.Cube.{Cube}
use Rattle.cube.specs.Mask.{cube_of, Clean}
use Rattle.cube.specs.Entry.{required_in, cube_in}
use Rattle.refusal.specs.Answer.{refusal_of}
use Rattle.refusal.specs.declared.refusal.Refusal.{Refusal}

-- The cube is a dhf-implicant of the context.
abbrev pub dhf_in : Context → Cube → Bool
dhf_in k c = dhf_implicant k.n.count (off_in k) (privileged_of k) (cube_of k.n.count c)

-- The cube r is one of the context's inputs around c, and a dhf-implicant if c is.
pub record Over (k : Context) (c r : Cube) : Type 0 where
  pub fits : Clean k.n.count r
  pub dhf : T (dhf_in k c) → T (dhf_in k r)
  pub around : T (dhf_in k c) → T (inside (cube_of k.n.count c) (cube_of k.n.count r))

-- The cube r is a dhf-prime around the cube c.
pub record PrimeOver (k : Context) (c : digits.Cube) (r : Cube) : Type 0 where
  pub fits : Clean k.n.count r
  pub prime : DhfPrime k.n.count (off_in k) (privileged_of k) (cube_of k.n.count r)
  pub around : T (inside c (cube_of k.n.count r))

-- What is made for the required cube of the word w: a dhf-prime around it, or its refusal.
abbrev pub MadeFor : Context → ℕ → Result Cube Refusal → Type 0
MadeFor k w (Ok c) = PrimeOver k (cube_in k.n.count w) c
MadeFor k w (Err q) = block_check k.n.count (off_in k) (privileged_of k) (required_in k.n.count w) ≡ Some (refusal_of q)
