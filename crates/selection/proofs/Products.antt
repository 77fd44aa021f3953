-- A product on its way to be chosen: a dhf-implicant around its required cube at each turn.
use mathlib.Core.Path.{◌≡◌, refl, sym, ap, ◌∙◌, subst}
use mathlib.Core.List.{List}
use Prim.Native.Nat.{ℕ}
use lib.Dec.{T}
use lib.Pow.{pow_pos}
use Rattle.hazard.specs.Cube.{Cube, inside}
use Rattle.hazard.specs.Sets.{Privileged}
use Rattle.hazard.specs.Implicant.{dhf_implicant}
use Rattle.hazard.specs.Growth.{Legal, grow}
use Rattle.hazard.specs.Expansion.{expand, absorb}
use Rattle.hazard.proofs.Cube.{Digits, Inside, →inside, inside→, inside_refl, inside_trans}
use Rattle.hazard.proofs.Implicant.{Dhf, Wide, dhf-is, prime-is}
use Rattle.hazard.proofs.Growth.{Ends, legal, grow_ends}
use Rattle.hazard.proofs.Expansion.{absorb-is, expand-prime, expand-around}
use Rattle.cube.specs.declared.mask.Cube as masks
use Rattle.cube.specs.Mask.{cube_of, Clean, Stands}
use Rattle.cube.specs.Entry.{Packed, cube_in}
use Rattle.cube.proofs.Digits.{masks_digits}
use Rattle.cube.proofs.Word.{packed_is, packed_clean}
use Rattle.context.specs.declared.context.Context.{Context}
use Rattle.context.specs.Context.{off_in, privileged_of}
use Rattle.context.proofs.Wide.{context_wide}
use Rattle.expand.specs.declared.growth.Grown as code
use Rattle.expand.specs.declared.growth.Grown.TheVariants as variants
use Rattle.expand.specs.Answer.{grown_of, LegalClean, Grows}
use Rattle.selection.specs.Product.{Over, PrimeOver}
use Rattle.selection.specs.Choose.{PrimeWord}

module _ (context : Context) where
  abbrev n : ℕ
  n = context.n.count

  abbrev pub vs : List Privileged
  vs = privileged_of context

  pub wide : Wide n vs
  wide = context_wide context

  -- The test and its meaning, of masks.
  dhf→ : (c : masks.Cube) → T (dhf_implicant n (off_in context) vs (cube_of n c)) → Dhf n (off_in context) vs (cube_of n c)
  dhf→ c t = (dhf-is n (off_in context) vs wide (masks_digits n c.care c.value)).0 t

  →dhf : (c : masks.Cube) → Dhf n (off_in context) vs (cube_of n c) → T (dhf_implicant n (off_in context) vs (cube_of n c))
  →dhf c d = (dhf-is n (off_in context) vs wide (masks_digits n c.care c.value)).1 d

  pub over-same : {c : masks.Cube} → Clean n c → Over context c c
  over-same {c} h = record { fits = h; dhf = λ t. t; around = λ t. →inside (inside_refl (cube_of n c)) }

  pub over-absorb : (c d : masks.Cube) {r : masks.Cube} → Stands n r (absorb n (off_in context) vs (cube_of n c) (cube_of n d)) → Over context c r
  over-absorb c d {r} s = record { fits = s.fits; dhf = λ t. →dhf r (both t).0; around = λ t. →inside (both t).1 }
    where
      both : T (dhf_implicant n (off_in context) vs (cube_of n c)) → Dhf n (off_in context) vs (cube_of n r) × Inside (cube_of n c) (cube_of n r)
      both t = rw s.is (absorb-is n (off_in context) vs wide (dhf→ c t) (masks_digits n d.care d.value))

  -- The cube p is a dhf-implicant around the cube c.
  pub record Stage (c : Cube) (p : masks.Cube) : Type 0 where
    pub fits : Clean n p
    pub dhf : T (dhf_implicant n (off_in context) vs (cube_of n p))
    pub around : T (inside c (cube_of n p))

  -- It begins with a cube that growth ended legal with.
  pub stage_legal : {c : Cube} {g : code.Grown} {d : masks.Cube} {s : ℕ} → Digits n c → Grows context c g → g ≡ variants.Legal d s → Stage c d
  stage_legal {c} {g} {d} {s} k h e =
      let i : Legal (cube_of n d) s ≡ grow n (off_in context) vs c = sym (ap (grown_of n) e) ∙ h.is in
      let t = ended (subst (Ends n (off_in context) vs c) (sym i) (grow_ends n (off_in context) vs wide k)) in
      record { fits = subst (LegalClean n) e h.clean; dhf = →dhf d t.0; around = →inside t.1 }
    where
      ended : Ends n (off_in context) vs c (Legal (cube_of n d) s) → Dhf n (off_in context) vs (cube_of n d) × Inside c (cube_of n d)
      ended (legal a b m) = (a, b)

  pub stage_start : {c : masks.Cube} → Clean n c → T (dhf_implicant n (off_in context) vs (cube_of n c)) → Stage (cube_of n c) c
  stage_start {c} h t = record { fits = h; dhf = t; around = →inside (inside_refl (cube_of n c)) }

  pub stage_step : {c : Cube} {p r : masks.Cube} → Stage c p → Over context p r → Stage c r
  stage_step {c} {p} {r} s o =
      record { fits = o.fits; dhf = o.dhf s.dhf; around = →inside (inside_trans (inside→ c (cube_of n p) s.around) (inside→ (cube_of n p) (cube_of n r) (o.around s.dhf))) }

  pub stage_end : {c : Cube} {p r : masks.Cube} → Stage c p → Stands n r (expand n (off_in context) vs (cube_of n p)) → PrimeOver context c r
  stage_end {c} {p} {r} s t =
      let d = dhf→ p s.dhf in
      record {
        fits = t.fits;
        prime = (prime-is n (off_in context) vs wide (cube_of n r)).1 (rw t.is (expand-prime n (off_in context) vs wide d));
        around = →inside (inside_trans (inside→ c (cube_of n p) s.around) (rw t.is (expand-around n (off_in context) vs wide d)));
      }

  -- A dhf-prime around a stage is one around the stage's cube.
  pub stage_prime : {c : Cube} {p r : masks.Cube} → Stage c p → PrimeOver context (cube_of n p) r → PrimeOver context c r
  stage_prime {c} {p} {r} s h =
      record { fits = h.fits; prime = h.prime; around = →inside (inside_trans (inside→ c (cube_of n p) s.around) (inside→ (cube_of n p) (cube_of n r) h.around)) }

  -- The product packed into a word.
  pub product-word : (v : ℕ) {w t : ℕ} {r : masks.Cube} → PrimeOver context (cube_in n v) r → Packed w t 0 r.care r.value → PrimeWord n (off_in context) vs w × T (inside (cube_in n v) (cube_in n w))
  product-word v {w} {r} h p =
      let s : Stands n r (cube_of n r) = record { fits = h.fits; is = refl } in
      let e : cube_in n w ≡ cube_of n r = packed_is p s in
      (record { prime = rw e h.prime; clean = packed_clean p s (pow_pos n) }, rw e h.around)

  -- And the word's cube is the product's.
  pub product-cube : {c : Cube} {w t : ℕ} {r : masks.Cube} → PrimeOver context c r → Packed w t 0 r.care r.value → cube_in n w ≡ cube_of n r
  product-cube {r = r} h p = packed_is p (record { fits = h.fits; is = refl })
