-- A problem without transitions is the classical one: dhf-implicants are implicants, dhf-primes are prime implicants, hazard-free networks
-- realise the function, and minimal networks are irredundant covers by prime implicants.
use mathlib.Core.Path.{◌≡◌, refl, sym, ap, subst, ◌∙◌, fun_ext}
use mathlib.Core.Logic.{◌≢◌, ◌↔◌, inl, inr}
use mathlib.Core.Bool.{Bool, false, not, ◌&&◌, ◌||◌, and-true}
use mathlib.Core.List.Memᴰ
use mathlib.Core.List.{List, [], ◌∷◌, ◌++◌, Memᴰ}
use Rattle.std.specs.Prelude.{Option, None, Some, option_map}
use Prim.Native.Nat.{ℕ, ◌*◌, ◌^◌, ◌≤◌, ◌<◌}
use native.Mathlib.Omega.{arith}
use native.Mathlib.Nat.{not-suc-le-zero, mul-zero}
use native.Mathlib.Decide.{ℕ_discrete}
use lib.Dec.{T, eqb, ltb, eqb→eq, ltb→lt}
use lib.ListN.{length, length-map, get_or, set, drop}
use borrow.Author.Tests.{le-ltb}
use Rattle.hazard.specs.Search.{those, first_of}
use Rattle.hazard.specs.Cube.{Cube, is_product, span, inside}
use Rattle.hazard.specs.Transition.{value, off}
use Rattle.hazard.specs.Sets.{Required, single_points, required, privileged}
use Rattle.hazard.specs.Implicant.{dhf_implicant, DhfPrime}
use Rattle.hazard.specs.Cover.{Network, WellFormed, gives, covered, without, Own, Irredundant}
use Rattle.hazard.specs.Sequence.{ascending}
use Rattle.hazard.specs.HazardFree.{HazardFree}
use Rattle.hazard.specs.Refusal.{Refusal, refusal, refuse_if, inputs_check, bytes_check, list_checks, points_checks, input_checks, Accepted}
use Rattle.hazard.specs.Verdict.{own_checks, verifier_checks, products, Verdict, refused, passed, holds_zero, uncovered, fault_a, fault_b, first_fault, fault, Verified}
use Rattle.hazard.specs.Minimal.{room_check, blocking, minimiser_checks, Minimal, Minimised, written, bytes_of, Promise}
use Rattle.hazard.specs.Classical.{Implicant, PrimeImplicant, Realises, IrredundantCover, on, function_checks, cover_checks, missed, classical_fault, ClassicalPromise, ClassicalVerified}
use Rattle.hazard.proofs.Test.{tests, is, isnt, so, so_not, eqb_of, or_e, bool_ext}
use Rattle.hazard.proofs.Search.{none_first, first-same, place_none, find-those, first_of-none, entries, first_of-right, first_of-rest, first_of_as, first_of-append}
use Rattle.hazard.proofs.Counting.{those-none}
use Rattle.hazard.proofs.Cube.{Digits, Inside, digits→, →digits, has→, →has, inside→, →inside, inside-has, inside_refl, inside_antisym, inside-set, set-digits, set-inside, inside_back, free-set}
use Rattle.hazard.proofs.Implicant.{Dhf, dhf-is, prime-is}
use Rattle.hazard.proofs.Sets.{point_at, point_i, point_e, required-point, required_cases, privileged_wide}
use Rattle.hazard.proofs.Rules.{inputs-few, length_whole, bytes-few}
use Rattle.hazard.proofs.Few.{many_never}
use Rattle.hazard.proofs.Network.{Products, well_formed→, without_member, covered-point}
use Rattle.hazard.proofs.Verdict.{checked_well_formed}
use Rattle.hazard.proofs.Minimal.{without-covered, minimal, minimal_own}
use Rattle.hazard.proofs.Blocking.{blocking-transitions}

module _ (n : ℕ) (f : List ℕ) where
  -- There are no privileged cubes to intersect,
  pub no_privileged : privileged n f [] ≡ []
  no_privileged = refl

  -- so implicants by digits and points are dhf-implicants.
  implicant-is : (p : Cube) → Implicant n f p ↔ Dhf n (off f) (privileged n f []) p
  implicant-is p = (
    λ h. record {
      digits = digits→ n p h.product;
      clean = λ x l o k. h.clean x l (→has k) (eqb→eq (value f x) 0 o);
      closed = λ v m. absurd (Memᴰ.not-nil m);
    },
    λ d. record { product = →digits d.digits; clean = λ x l t z. d.clean x l (eqb_of z) (has→ p x t) },
  )

  -- A product is a dhf-implicant exactly if it is an implicant.
  pub dhf-implicant : (p : Cube) → T (is_product n p) → T (dhf_implicant n (off f) (privileged n f []) p) ↔ Implicant n f p
  dhf-implicant p w =
      let d = dhf-is n (off f) (privileged n f []) (privileged_wide n f []) (digits→ n p w) in
      (λ t. (implicant-is p).1 (d.0 t), λ h. d.1 ((implicant-is p).0 h))

  -- An implicant's part is one.
  implicant_part : {p q : Cube} → Digits n p → Inside p q → Implicant n f q → Implicant n f p
  implicant_part {p} w i h = record { product = →digits w; clean = λ x l t. h.clean x l (→has (inside-has i (has→ p x t))) }

  -- A prime implicant is an implicant that lies in no other.
  pub prime-alone : (p : Cube) → PrimeImplicant n f p ↔ (Implicant n f p × ((q : Cube) → Implicant n f q → T (inside p q) → q ≡ p))
  prime-alone p = (λ h. (h.implicant, alone h), λ h. record { implicant = h.0; shortest = shortest h.1 })
    where
      alone : PrimeImplicant n f p → (q : Cube) → Implicant n f q → T (inside p q) → q ≡ p
      alone h q k t =
          let w = digits→ n p h.implicant.product in
          let i = inside→ p q t in
          inside_antisym (inside_back w i (λ j l e. elim (ℕ_discrete (get_or p j 2) 2) [
            | yes d ↦ d
            | no d ↦ absurd (h.shortest j d (implicant_part (set-digits j w) (set-inside j i e) k))
          ])) i

      shortest : ((q : Cube) → Implicant n f q → T (inside p q) → q ≡ p) → (i : ℕ) → get_or p i 2 ≢ 2 → ¬ Implicant n f (set p i 2)
      shortest only i d k = d (ap (λ (c : Cube). get_or c i 2) (sym (only (set p i 2) k (→inside (inside-set p i)))) ∙ free-set p i)

  -- The dhf-primes are the prime implicants.
  pub dhf-prime-implicant : (p : Cube) → DhfPrime n (off f) (privileged n f []) p ↔ PrimeImplicant n f p
  dhf-prime-implicant p =
      let s = prime-is n (off f) (privileged n f []) (privileged_wide n f []) p in
      let a = prime-alone p in (
        λ h. let k = s.0 h in a.1 ((implicant-is p).1 k.dhf, λ q i t. let u = inside→ p q t in inside_antisym (k.maximal q ((implicant-is q).0 i) u) u),
        λ h. let (i, only) = a.0 h in
            s.1 (record { dhf = (implicant-is p).0 i; maximal = λ q d u. subst (Inside q) (only q ((implicant-is q).1 d) (→inside u)) (inside_refl q) }),
      )

  -- A network is hazard-free exactly if it realises the function: there are no runs.
  pub hazard_free-realises : (net : Network) → HazardFree n f [] net ↔ Realises n f net
  hazard_free-realises net = (
    λ h. record { zeros = h.zeros; ones = h.ones },
    λ h. record { zeros = h.zeros; ones = h.ones; runs = λ k l. absurd (not-suc-le-zero l) },
  )

  -- The required cubes are the 1s, as single points,
  pub required_points : required n f [] ≡ single_points n 0 (on f)
  required_points = ap (single_points n 0) (fun_ext (λ x. and-true (on f x)))

  -- so nothing blocks.
  pub nothing_blocks : blocking n f [] ≡ None
  nothing_blocks = blocking-transitions n f []

  -- Entry by entry.
  one-cube : (r : Required) → Memᴰ r (required n f []) → (x : ℕ) × (x < 2 ^ n) × (value f x ≡ 1) × (point_at n [] x ≡ r)
  one-cube r m = elim (required_cases n f [] m) [
    | inl u ↦ absurd (Memᴰ.not-nil u)
    | inr u ↦ let (x, l, t, e) = point_e n f [] u in (x, l, (simp tests at t).0, e)
  ]

  cube-one : (x : ℕ) → x < 2 ^ n → value f x ≡ 1 → Memᴰ (point_at n [] x) (required n f [])
  cube-one x l v = required-point n f [] (point_i n f [] x l (simp tests (v, λ t. t)))

  -- A network is minimal exactly if it is an irredundant cover by prime implicants, in sequence.
  pub minimal_irredundant : (net : Network) → Accepted n f [] → Minimal n f [] net ↔ (IrredundantCover n f net × T (ascending net))
  minimal_irredundant net accepted = (
    λ h. (
      record {
        primes = λ p m. (dhf-prime-implicant p).0 (h.primes p m);
        realises = (hazard_free-realises net).0 h.hazard_free;
        irredundant = λ j l. lost (λ p m. (h.primes p m).product) j (minimal_own n f [] accepted net h j l);
      },
      h.sequence,
    ),
    λ h. minimal n f [] accepted net (λ p m. (dhf-prime-implicant p).1 (h.0.primes p m)) (covers h.0) (own h.0) h.1,
  )
    where
      good : (j : ℕ) → WellFormed n net → Products n (without j net)
      good j w = well_formed→ (λ p m. w p (without_member j net m))

      lost : WellFormed n net → (j : ℕ) → Own (required n f []) net j → (x : ℕ) × (x < 2 ^ n) × (value f x ≡ 1) × (gives (without j net) x ≡ false)
      lost w j o =
          let (x, l, v, e) = one-cube o.cube o.listed in
          (x, l, v, isnt (gives (without j net) x) (λ t. o.alone (subst (λ (r : Required). T (covered (without j net) r.cube)) e ((covered-point n (without j net) (good j w) x).1 t))))

      formed : IrredundantCover n f net → WellFormed n net
      formed h p m = (h.primes p m).implicant.product

      covers : IrredundantCover n f net → (r : Required) → Memᴰ r (required n f []) → T (covered net r.cube)
      covers h r m =
          let (x, l, v, e) = one-cube r m in
          subst (λ (q : Required). T (covered net q.cube)) e ((covered-point n net (well_formed→ (formed h)) x).1 (so (h.realises.ones x l v)))

      own : IrredundantCover n f net → Irredundant (required n f []) net
      own h j l =
          let (x, k, v, e) = h.irredundant j l in
          let m = cube-one x k v in
          let alone : ¬ T (covered (without j net) (span n x x)) = λ t. so_not e ((covered-point n (without j net) (good j (formed h)) x).0 t) in
          record { cube = point_at n [] x; listed = m; mine = without-covered j net (span n x x) (covers h (point_at n [] x) m) alone; alone = alone }

  -- Of the input rules only those of the function can refuse anything,
  pub function_checks_lem : first_of (input_checks n f []) ≡ first_of (function_checks n f)
  function_checks_lem = many_never n f [] ∙ first_of-rest (function_checks n f) (list_checks n [] ++ points_checks n f []) refl

  -- which let through exactly a table of 1 to 10 inputs with a value for each point;
  pub function_taken : (first_of (function_checks n f) ≡ None) ↔ ((1 ≤ n) × (n ≤ 10) × (length f ≡ 2 ^ n) × ((x : ℕ) → value f x ≤ 2))
  function_taken = (
    λ e. let (low, high) = inputs-few n (passes e (search entries)) in (low, high, length_whole n f (passes e (search entries)), bytes-few f (passes e (search entries))),
    λ (low, high, whole, values). rw (few low high, ap (λ (b : Bool). refuse_if (not b) 2) (is {b = eqb (length f) (2 ^ n)} (eqb_of whole)), below values),
  )
    where
      passes : {o : Option Refusal} → first_of (function_checks n f) ≡ None → Memᴰ o (function_checks n f) → o ≡ None
      passes e = first_of-none (function_checks n f) e

      few : 1 ≤ n → n ≤ 10 → inputs_check n ≡ None
      few low high = ap (λ (b : Bool). refuse_if b 1) (isnt (eqb n 0 || ltb 10 n) (λ t. elim (or_e (eqb n 0) (ltb 10 n) t) [ inl u ↦ omega (arith, eqb→eq n 0 u) | inr u ↦ omega (arith, ltb→lt 10 n u) ]))

      below : ((x : ℕ) → value f x ≤ 2) → bytes_check f ≡ None
      below values = ap (option_map (λ x. refusal 3 0 x)) (none_first (λ x. ltb 2 (value f x)) 0 (length f) (λ x l m t. omega (arith, ltb→lt 2 (value f x) t, values x)))

  -- and of the minimiser's checks only 9 beside them.
  pub cover-checks : (room : ℕ) → first_of (minimiser_checks n f [] room) ≡ first_of (cover_checks n f room)
  cover-checks room =
      first_of_as (input_checks n f []) (function_checks n f) (room_check n f [] room ∷ blocking n f [] ∷ []) function_checks_lem
      ∙ first_of-rest (function_checks n f ++ (room_check n f [] room ∷ [])) (blocking n f [] ∷ []) (ap (λ (o : Option Refusal). first_of (o ∷ [])) nothing_blocks)
      ∙ ap (λ (k : ℕ). first_of (function_checks n f ++ (refuse_if (ltb room (n * k)) 9 ∷ []))) size
    where
      size : length (required n f []) ≡ length (those (on f) 0 (2 ^ n))
      size = ap (λ (l : List Required). length l) required_points ∙ length-map (those (on f) 0 (2 ^ n)) (point_at n [])

  verifier_checks_lem : (bytes : List ℕ) (room : ℕ) → first_of (verifier_checks n f [] bytes room) ≡ first_of (function_checks n f ++ own_checks n bytes room)
  verifier_checks_lem bytes room = first_of_as (input_checks n f []) (function_checks n f) (own_checks n bytes room) function_checks_lem

  -- Nothing is met illegally, and the first required cube in no product is the lowest 1 missed.
  pub fault_classical : (net : Network) → WellFormed n net → fault n f [] net ≡ classical_fault n f net
  fault_classical net w =
      ap (λ (c : Option (ℕ × ℕ)). first_fault (fault_a n (off f) net) c (fault_b (required n f []) net)) ((place_none (λ j. None) 0 (length net)).1 (λ j l m. refl))
      ∙ ap (first_fault (fault_a n (off f) net) None) left
      ∙ cases (fault_a n (off f) net) (missed n f net)
    where
      points : (x : ℕ) → (on f x && not (covered net (span n x x))) ≡ (on f x && not (gives net x))
      points x = let c = covered-point n net (well_formed→ w) x in ap (λ (b : Bool). on f x && not b) (bool_ext (covered net (span n x x)) (gives net x) c.0 c.1)

      left : fault_b (required n f []) net ≡ option_map (point_at n []) (missed n f net)
      left =
          ap (λ (rs : List Required). fault_b rs net) required_points
          ∙ find-those (on f) (λ (r : Required). not (covered net r.cube)) (point_at n []) 0 (2 ^ n)
          ∙ ap (option_map (point_at n [])) (first-same (λ x. on f x && not (covered net (span n x x))) (λ x. on f x && not (gives net x)) 0 (2 ^ n) (λ x l m. points x))

      cases : (a : Option (ℕ × ℕ)) (b : Option ℕ) → first_fault a None (option_map (point_at n []) b) ≡ elim a [ Some p ↦ holds_zero p.0 p.1 | None ↦ elim b [ Some x ↦ uncovered 0 x | None ↦ passed ] ]
      cases (Some p) b = refl
      cases None (Some x) = refl
      cases None None = refl

  -- The minimiser's whole promise,
  pub minimised_classical : {before after : List ℕ} {r : Minimised} → Promise n f [] before after r → ClassicalPromise n f before after r
  minimised_classical {before} p =
      record {
        refused = λ q e. p.refused q (cover-checks (length before) ∙ e);
        network = λ e.
            let h = cover-checks (length before) ∙ e in
            let (net, k, m, w) = p.network h in
            let (c, s) = (minimal_irredundant net ((first_of-append (input_checks n f []) (room_check n f [] (length before) ∷ blocking n f [] ∷ [])).0 h).0).0 m in
            (net, k, c, s, w);
      }

  -- which for a table without a 1 is no product, into a buffer of any length, also 0,
  pub minimised_nothing : {before after : List ℕ} {r : Minimised} → Promise n f [] before after r → first_of (function_checks n f) ≡ None
      → ((x : ℕ) → value f x ≢ 1) → (r ≡ written 0) × (after ≡ before)
  minimised_nothing {before} {after} {r} p e no_one = go ((minimised_classical p).network (first_of-right (function_checks n f) (refuse_if (ltb (length before) (n * length (those (on f) 0 (2 ^ n)))) 9 ∷ []) e ∙ room))
    where
      size : n * length (those (on f) 0 (2 ^ n)) ≡ 0
      size = rw (those-none (on f) 0 (2 ^ n) (λ x t. no_one x (eqb→eq (value f x) 1 t)), mul-zero n)

      room : first_of (refuse_if (ltb (length before) (n * length (those (on f) 0 (2 ^ n)))) 9 ∷ []) ≡ None
      room = ap (λ (b : Bool). first_of (refuse_if b 9 ∷ [])) (le-ltb (length before) (n * length (those (on f) 0 (2 ^ n))) (omega (arith, size)))

      go : (net : Network) × (r ≡ written (length net)) × IrredundantCover n f net × T (ascending net) × (after ≡ bytes_of net ++ drop (n * length net) before) → (r ≡ written 0) × (after ≡ before)
      go ([], k, c, s, w) = (k, w ∙ ap (λ (i : ℕ). drop i before) (mul-zero n))
      go (q ∷ net, k, c, s, w) = let (x, l, v, h) = c.irredundant 0 (omega arith) in absurd (no_one x v)

  -- and the verifier's.
  pub verified_classical : {bytes : List ℕ} {room : ℕ} {v : Verdict} → Verified n f [] bytes room v → ClassicalVerified n f bytes room v
  verified_classical {bytes} {room} p =
      record {
        is = p.is ∙ same (first_of (verifier_checks n f [] bytes room)) refl ∙ ap judgement (verifier_checks_lem bytes room);
        realises = λ e.
            let c = p.hazard_free (verifier_checks_lem bytes room ∙ e) in
            let r = hazard_free-realises (products n bytes) in
            (λ w. r.0 (c.0 w), λ h. c.1 (r.1 h));
      }
    where
      judgement : Option Refusal → Verdict
      judgement o = elim o [ Some q ↦ refused q | None ↦ classical_fault n f (products n bytes) ]

      same : (o : Option Refusal) → first_of (verifier_checks n f [] bytes room) ≡ o → ◌≡◌ {A = Verdict} (elim o [ Some q ↦ refused q | None ↦ fault n f [] (products n bytes) ]) (judgement o)
      same (Some q) e = refl
      same None e = fault_classical (products n bytes) (checked_well_formed n f [] bytes room e)
