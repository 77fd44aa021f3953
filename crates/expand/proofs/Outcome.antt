-- What is made of a growth's answer.
use mathlib.Core.Path.{◌≡◌, refl, sym}
use mathlib.Core.Bool.{Bool, true, false}
use mathlib.Core.List.{List}
use Rattle.std.specs.Prelude.{Option, None, Some}
use Rattle.std.specs.Option.{is_some}
use Prim.Native.Nat.{ℕ}
use native.Mathlib.Omega.{arith}
use Rattle.hazard.specs.Cube.{Cube}
use Rattle.hazard.specs.Sets.{Required, Privileged}
use Rattle.hazard.specs.Implicant.{lowest_zero}
use Rattle.hazard.specs.Growth.{grow}
use Rattle.hazard.specs.Expansion.{grown_or}
use Rattle.hazard.specs.Minimal.{blocked_by, block_check}
use Rattle.cube.specs.declared.mask.Cube as masks
use Rattle.cube.specs.Mask.{Stands}
use Rattle.context.specs.declared.context.Context.{Context}
use Rattle.context.specs.Context.{off_in, privileged_of}
use Rattle.expand.specs.declared.growth.Grown as code
use Rattle.expand.specs.declared.growth.Grown.TheVariants.{Blocked}
use Rattle.expand.specs.Answer.{grown_of, block_refusal, Grows}
use Rattle.expand.proofs.Growing.{blocked_first}

-- What is kept after the growth of a cube.
pub kept : {k : Context} {q q' : Cube} {g : code.Grown} (p : Cube) {r : masks.Cube}
    → Grows k q g → q ≡ q' → Stands k.n.count r (grown_or p (grown_of k.n.count g)) → Stands k.n.count r (grown_or p (grow k.n.count (off_in k) (privileged_of k) q'))
kept p s e t = rw (← e, ← s.is) t

-- A cube that has a zero before any step leaves the cube that was there before.
pub stays : (n : ℕ) (off : ℕ → Bool) (vs : List Privileged) (p q : Cube) {found : Option ℕ} → found ≡ lowest_zero n off q → true ≡ is_some found → p ≡ grown_or p (grow n off vs q)
stays n off vs p q {found} e s = go found e s
  where
    go : (o : Option ℕ) → o ≡ lowest_zero n off q → true ≡ is_some o → p ≡ grown_or p (grow n off vs q)
    go (Some z) e s = rw (← blocked_first n off vs q (sym e))
    go None e s = let y : ◌≡◌ {A = ℕ} 0 1 = cc in absurd (omega arith)

pub none_found : {found : Option ℕ} → false ≡ is_some found → found ≡ None
none_found {found} s = go found s
  where
    go : (o : Option ℕ) → false ≡ is_some o → o ≡ None
    go (Some z) s = let y : ◌≡◌ {A = ℕ} 0 1 = cc in absurd (omega arith)
    go None s = refl

-- What a required cube's check says, from its growth.
pub checked : {k : Context} {q : Cube} {g : code.Grown} (r : Required)
    → Grows k q g → q ≡ r.cube → blocked_by r (grown_of k.n.count g) ≡ block_check k.n.count (off_in k) (privileged_of k) r
checked {k} r s e = rw (s.is, e)

-- A growth that ended blocked is refusal 10.
pub blocked_refusal : (n : ℕ) {g : code.Grown} {z s : ℕ} (r : Required) → g ≡ Blocked z s → blocked_by r (grown_of n g) ≡ Some (block_refusal r (grown_of n g))
blocked_refusal n r e = rw e
