-- From the minimiser's promise to the program's.
use mathlib.Core.Logic.{◌≢◌}
use mathlib.Core.Path.{◌≡◌, refl, sym, ap, ap₂, subst, ◌∙◌}
use mathlib.Core.Bool.{Bool, false}
use mathlib.Core.List.{List, [], ◌∷◌, ◌++◌, Memᴰ, append_assoc}
use Rattle.std.specs.Prelude.{Option, None, Some}
use Rattle.std.proofs.lemmas.Option.{same_Some}
use Prim.Native.Nat.{ℕ, zero, suc, ◌+◌, ◌*◌, ◌≤◌}
use native.Mathlib.Nat.{mul-le-mul}
use native.Mathlib.Omega.{arith}
use lib.Dec.{T, ltb}
use lib.ListN.{length, get_or, take, drop, length-append}
use lib.Seq.{take_at, drop_at}
use borrow.Author.Tests.{le-ltb}
use Rattle.hazard.specs.Limits.{most_required, most_cover}
use Rattle.hazard.specs.Search.{first_of}
use Rattle.hazard.specs.Cube.{Cube, is_product}
use Rattle.hazard.specs.Sets.{required}
use Rattle.hazard.specs.Cover.{Network}
use Rattle.hazard.specs.Verdict.{cut}
use Rattle.hazard.specs.Refusal.{Refusal, refuse_if, input_checks, Accepted}
use Rattle.hazard.specs.Minimal as minimal
use Rattle.hazard.specs.Minimal.{room_check, blocking, minimiser_checks, Minimal, Minimised, written, declined, bytes_of}
use Rattle.hazard.proofs.Test.{T_and}
use Rattle.hazard.proofs.Search.{none-some, first_of-left, first_of-right, first_of-one, first_of-append}
use Rattle.hazard.proofs.Few.{required-few}
use Rattle.hazard.proofs.Rules.{few-inputs}
use Rattle.hazard.proofs.Numbers.{block_number, Numbers, no_more, next, numbers-append, listed, number-listed, input-numbers}
use Rattle.problem_text.specs.Decimal.{decimal}
use Rattle.problem_text.specs.Form.{newline}
use Rattle.writing.specs.Output.{products_head, product_lines, network_text, refusal_text}
use Rattle.writing.specs.Put.{Put}
use Rattle.quiet_text.specs.Answer.{checks, Printed, Solved}

module _ (n : ℕ) (f ts : List ℕ) where
  -- The checks have numbers, which compute to a list; 9 is none of them.
  abbrev numbers : (ks : List ℕ) × Numbers ks (checks n f ts)
  numbers = (_, numbers-append (input-numbers n f ts).1 (next (block_number n f ts) no_more))

  pub never_nine : (q : Refusal) → first_of (checks n f ts) ≡ Some q → q.number ≢ 9
  never_nine q e h = subst (λ (k : ℕ). T (listed k numbers.0)) h (number-listed numbers.1 e)

  module _ {room : ℕ} (h : most_cover ≤ room) where
    -- The room is enough, so check 9 finds nothing.
    room_enough : Accepted n f ts → room_check n f ts room ≡ None
    room_enough a =
        let l : n * length (required n f ts) ≤ most_cover = mul-le-mul (few-inputs n f ts a).1 (required-few n f ts a) in
        let b : ltb room (n * length (required n f ts)) ≡ false = le-ltb room (n * length (required n f ts)) (omega arith) in
        ap (λ (b : Bool). refuse_if b 9) b

    -- With it or without it, the first refusal is the same.
    pub same-checks : first_of (minimiser_checks n f ts room) ≡ first_of (checks n f ts)
    same-checks = go (first_of (input_checks n f ts)) refl
      where
        go : (o : Option Refusal) → first_of (input_checks n f ts) ≡ o → first_of (minimiser_checks n f ts room) ≡ first_of (checks n f ts)
        go (Some q) e = first_of-left (input_checks n f ts) (room_check n f ts room ∷ blocking n f ts ∷ []) e ∙ sym (first_of-left (input_checks n f ts) (blocking n f ts ∷ []) e)
        go None e =
            first_of-right (input_checks n f ts) (room_check n f ts room ∷ blocking n f ts ∷ []) e ∙ ap (λ (o : Option Refusal). first_of (o ∷ blocking n f ts ∷ [])) (room_enough e)
            ∙ sym (first_of-right (input_checks n f ts) (blocking n f ts ∷ []) e)

    early : Accepted n f ts → first_of (input_checks n f ts ++ (room_check n f ts room ∷ [])) ≡ None
    early a = first_of-right (input_checks n f ts) (room_check n f ts room ∷ []) a ∙ ap (λ (o : Option Refusal). first_of (o ∷ [])) (room_enough a)

    -- Where the input rules hold, only a blocking cube is refused.
    only_ten : Accepted n f ts → (q : Refusal) → first_of (checks n f ts) ≡ Some q → q.number ≡ 10
    only_ten a q e = block_number n f ts q (sym (first_of-right (input_checks n f ts) (blocking n f ts ∷ []) a ∙ first_of-one (blocking n f ts)) ∙ e)

-- What is put is printed.
pub printed-from : {before bytes after : List ℕ} {r : ℕ} → Put before bytes after r → Printed before bytes after (Some r)
printed-from w = record { count = ap Some w.counted; is = w.is }

product-length : (n : ℕ) (p : Cube) → T (is_product n p) → length p ≡ n
product-length zero [] t = refl
product-length zero (d ∷ p) t = absurd t
product-length (suc n) [] t = absurd t
product-length (suc n) (d ∷ p) t = ap suc (product-length n p (simp T_and at t).1)

-- The bytes of a network, cut into its products.
cut-bytes : (n : ℕ) (net : Network) (rest : List ℕ) → ((p : Cube) → Memᴰ p net → T (is_product n p)) → cut n (length net) (bytes_of net ++ rest) ≡ net
cut-bytes n [] rest h = refl
cut-bytes n (p ∷ net) rest h =
    let l = product-length n p (h p (Memᴰ.head refl)) in
    let split = append_assoc p (bytes_of net) rest in
    ap₂ (λ (q : Cube) (m : Network). q ∷ m) (ap (take n) split ∙ take_at p (bytes_of net ++ rest) n l)
    (ap (λ (b : List ℕ). cut n (length net) (drop n b)) split ∙ ap (cut n (length net)) (drop_at p (bytes_of net ++ rest) n l) ∙ cut-bytes n net rest (λ q m. h q (Memᴰ.tail m)))

-- What is counted lies in the buffer.
pub printed-within : {before bytes after : List ℕ} {r : Option ℕ} → Printed before bytes after r → (k : ℕ) → r ≡ Some k → k ≤ length after
printed-within {before} {bytes} {after} w k e =
    let c : k ≡ length bytes = same_Some _ _ (sym e ∙ w.count) in
    let l : length after ≡ length bytes + length (drop (length bytes) before) = ap length w.is ∙ length-append bytes (drop (length bytes) before) in
    omega arith

-- What stands in the buffer after a count of products.
record Made (n : ℕ) (f ts before after : List ℕ) (k : ℕ) : Type 0 where
  net : Network
  size : k ≡ length net
  minimal' : Minimal n f ts net
  is : after ≡ bytes_of net ++ drop (n * length net) before
  accepted : Accepted n f ts
  passed : first_of (checks n f ts) ≡ None

module _ {n : ℕ} {f ts before after : List ℕ} where
  -- A refusal, printed.
  pub solved-refused : {m : Refusal} {out out' : List ℕ} {r : ℕ} → most_cover ≤ length before → minimal.Promise n f ts before after (declined m)
      → Printed out (refusal_text m) out' (Some r) → Solved n f ts out out' (Some r)
  solved-refused {m} {out} {out'} {r} h p w =
      record {
        refused = λ q e. (subst (λ (q : Refusal). Printed out (refusal_text q) out' (Some r)) (same q e) w, never_nine n f ts q e);
        network = λ e. none_here (p.network (same-checks n f ts h ∙ e));
        none' = λ a. let t = p.none' (early n f ts h a) in
            (λ x. t.0 (m, refl, ten a (first_of (checks n f ts)) refl), λ x. let (q, e, k) = t.1 x in (m, w, ap (λ (q : Refusal). q.number) (inner q e) ∙ k));
      }
    where
      inner : (q : Refusal) → declined m ≡ declined q → m ≡ q
      inner q e = ap (λ (x : Minimised). elim x [ written k ↦ m | declined q ↦ q ]) e

      same : (q : Refusal) → first_of (checks n f ts) ≡ Some q → m ≡ q
      same q e = inner q (p.refused q (same-checks n f ts h ∙ e)).0

      none_here : {C : Type 0} → (net : Network) × (declined m ≡ written (length net)) × Minimal n f ts net × (after ≡ bytes_of net ++ drop (n * length net) before) → C
      none_here (net, e, k, w) = let z : ◌≡◌ {A = ℕ} 0 1 = cc in absurd (omega arith)

      ten : Accepted n f ts → (o : Option Refusal) → first_of (checks n f ts) ≡ o → m.number ≡ 10
      ten a (Some q) e = ap (λ (q : Refusal). q.number) (same q e) ∙ only_ten n f ts h a q e
      ten a None e = none_here (p.network (same-checks n f ts h ∙ e))

  made : {k : ℕ} → most_cover ≤ length before → minimal.Promise n f ts before after (written k) → Made n f ts before after k
  made {k} h p = go (first_of (checks n f ts)) refl
    where
      never : {C : Type 0} (q : Refusal) → written k ≡ declined q → C
      never q e = let z : ◌≡◌ {A = ℕ} 0 1 = cc in absurd (omega arith)

      go : (o : Option Refusal) → first_of (checks n f ts) ≡ o → Made n f ts before after k
      go (Some q) e = never q (p.refused q (same-checks n f ts h ∙ e)).0
      go None e =
          let (net, s, m, w) = p.network (same-checks n f ts h ∙ e) in
          record {
            net = net;
            size = ap (λ (x : Minimised). elim x [ written j ↦ j | declined q ↦ k ]) s;
            minimal' = m;
            is = w;
            accepted = ((first_of-append (input_checks n f ts) (blocking n f ts ∷ [])).0 e).0;
            passed = e;
          }

  product_of : {k : ℕ} (m : Made n f ts before after k) (p : Cube) → Memᴰ p m.net → T (is_product n p)
  product_of m p u = (m.minimal'.primes p u).product

  -- Enough for the network's output.
  pub network-room : {k : ℕ} → most_cover ≤ length before → minimal.Promise n f ts before after (written k) → length after ≡ length before → (k * n ≤ length after) × (n ≤ 10) × (k ≤ most_required)
  network-room {k} h p l =
      let m = made h p in
      let few : k ≤ most_required = omega (arith, m.size, m.minimal'.few, required-few n f ts m.accepted) in
      let inputs = (few-inputs n f ts m.accepted).1 in
      (omega (arith, mul-le-mul few inputs), inputs, few)

  -- A network, printed.
  pub solved-written : {k : ℕ} {out out' : List ℕ} {r : ℕ} → most_cover ≤ length before → minimal.Promise n f ts before after (written k)
      → Put out (products_head ++ (decimal k ++ (newline ∷ product_lines (cut n k after)))) out' r → Solved n f ts out out' (Some r)
  solved-written {k} {out} {out'} {r} h p w =
      record {
        refused = λ q e. none-some (sym m.passed ∙ e);
        network = λ e. (m.net, m.minimal', shown);
        none' = λ a. (λ x. other x.0 x.1, λ x. absurd (x (m.net, product_of m, m.minimal'.hazard_free)));
      }
    where
      m : Made n f ts before after k
      m = made h p

      same : cut n k after ≡ m.net
      same = ap (λ (j : ℕ). cut n j after) m.size ∙ ap (cut n (length m.net)) m.is ∙ cut-bytes n m.net (drop (n * length m.net) before) (product_of m)

      text : products_head ++ (decimal k ++ (newline ∷ product_lines (cut n k after))) ≡ network_text m.net
      text = ap₂ (λ (j : ℕ) (net : Network). products_head ++ (decimal j ++ (newline ∷ product_lines net))) m.size same

      shown : Printed out (network_text m.net) out' (Some r)
      shown = printed-from (subst (λ (b : List ℕ). Put out b out' r) text w)

      -- No output is both a network's and a refusal's.
      other : {C : Type 0} (q : Refusal) → Printed out (refusal_text q) out' (Some r) → C
      other q s = let e : ◌≡◌ {A = ℕ} 112 114 = ap (λ (l : List ℕ). get_or l 0 0) (sym shown.is ∙ s.is) in absurd (omega (arith, e))
