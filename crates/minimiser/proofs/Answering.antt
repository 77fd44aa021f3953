-- From the answer for the stored sets to the minimiser's promise.
use mathlib.Core.Path.{◌≡◌, refl, sym, ap, ◌∙◌, subst}
use mathlib.Core.Bool.{Bool}
use mathlib.Core.List.{List, [], ◌∷◌, ◌++◌, map}
use Rattle.std.specs.Prelude.{Option, None, Some, Result}
use Prim.Native.Nat.{ℕ, ◌*◌, ◌≤◌, ◌<◌}
use native.Mathlib.Nat.{mul_comm, mul-le-mul, not-le_of_lt}
use native.Mathlib.Omega.{arith}
use lib.Dec.{ltb, lt→ltb, ltb→lt}
use lib.ListN.{length, get_or, drop, length-map}
use Rattle.hazard.specs.Limits.{most_required, most_cover}
use Rattle.hazard.specs.Search.{first_of}
use Rattle.hazard.specs.Transition as transition
use Rattle.hazard.specs.Sets as sets
use Rattle.hazard.specs.Refusal.{Refusal, refusal, input_checks, Accepted}
use Rattle.hazard.specs.Minimal.{room_check, blocking, minimiser_checks, Minimised, declined, bytes_of, Promise}
use Rattle.hazard.proofs.Search.{none-some, first_of-left, first_of-right, first_of-one}
use Rattle.hazard.proofs.Few.{required-few}
use Rattle.hazard.proofs.Rules.{few-inputs}
use Rattle.hazard.proofs.Minimal.{minimal}
use Rattle.hazard.proofs.Promise.{promise_refused, promise_written}
use Rattle.cube.specs.Entry.{required_in, CleanWord, cube_in, network_in}
use Rattle.cube.specs.declared.inputs.Inputs.{Inputs}
use Rattle.context.specs.Context.{off_in, privileged_of, table_in}
use Rattle.checks.specs.declared.checked.Checked.{Checked}
use Rattle.checks.proofs.HandedOn.{checked-off}
use Rattle.refusal.proofs.Checks.{refuse_yes, refuse_no}
use Rattle.refusal.specs.declared.refusal.Refusal as code
use Rattle.selection.specs.declared.select.Places.{Places}
use Rattle.selection.specs.Select.{Selects}
use Rattle.minimiser.specs.Answer.{Writable, Answered, AnsweredFor}
use Rattle.minimiser.proofs.Writing.{writable, refused-kept}

-- What is answered for words that hold a checked problem's required cubes is answered for the problem.
module _ (k : Checked) where
  abbrev n : ℕ
  n = k.problem.planes.n.count

  abbrev table : List ℕ
  table = table_in k.problem.planes

  abbrev list : List ℕ
  list = k.problem.transitions.list.now

  module _ (words : List ℕ) (r : map (required_in n) words ≡ sets.required n table list) where
    pub stored_few : length words ≡ k.count
    stored_few = sym (length-map words (required_in n)) ∙ ap length r ∙ sym k.sets.count'

    pub stored_room : {room : ℕ} → n * k.count ≤ room → length words * k.context.n.count ≤ room
    stored_room {room} h = rw (stored_few, k.sets.inputs, mul_comm k.count n) h

    pub stored-clean : ((i : ℕ) → CleanWord n (get_or words i 0)) → (i : ℕ) → CleanWord k.context.n.count (get_or words i 0)
    stored-clean h = rw k.sets.inputs h

    pub answered_for : {before after : List ℕ} {a : Minimised}
        → Answered k.context.n.count (off_in k.context) (privileged_of k.context) (map (required_in k.context.n.count) words) before after a → AnsweredFor k.problem.planes list before after a
    answered_for {before} {after} {a} h =
        let answer : ℕ → (ℕ → Bool) → List sets.Privileged → List sets.Required → Type 0 = λ m o vs rs. Answered m o vs rs before after a in
        let own = subst (λ (m : Inputs). answer m.count (off_in k.context) (privileged_of k.context) (map (required_in m.count) words)) k.sets.inputs h in
        let for_off = subst (λ (o : ℕ → Bool). answer n o (privileged_of k.context) (map (required_in n) words)) (checked-off k) own in
        let for_privileged = subst (λ (vs : List sets.Privileged). answer n (transition.off table) vs (map (required_in n) words)) k.sets.privileged' for_off in
        subst (λ (rs : List sets.Required). answer n (transition.off table) (sets.privileged n table list) rs) r for_privileged

-- A buffer with n bytes for each stored required cube has room for what select answers.
pub stored_writable : (n : ℕ) (off : ℕ → Bool) (vs : List sets.Privileged) (required products cover : List ℕ) (r : Result Places code.Refusal) → Selects n off vs (map (required_in n) required) products r
    → length required ≤ most_required → length required * n ≤ length cover → Writable n products cover r
stored_writable n off vs required products cover r h few room =
    let e = length-map required (required_in n) in
    writable n off vs (map (required_in n) required) products cover r h (omega (arith, e, few)) (rw e room)

-- The promise, of each way to answer.
module _ (n : ℕ) (f ts before : List ℕ) where
  abbrev late : List (Option Refusal)
  late = room_check n f ts (length before) ∷ blocking n f ts ∷ []

  pub input-declined : {q : Refusal} → Some q ≡ first_of (input_checks n f ts) → Promise n f ts before before (declined q)
  input-declined e = promise_refused n f ts before (first_of-left (input_checks n f ts) late (sym e))

  module _ (ok : Accepted n f ts) where
    pub room-declined : {q : Refusal} (count : ℕ) → count ≡ length (sets.required n f ts) → q ≡ refusal 9 0 0 → length before < n * count → Promise n f ts before before (declined q)
    room-declined count c e h =
        let l : length before < n * length (sets.required n f ts) = rw c at h in
        promise_refused n f ts before (first_of-right (input_checks n f ts) late ok ∙ room e (refuse_yes (ltb (length before) (n * length (sets.required n f ts))) 9 (lt→ltb (length before) (n * length (sets.required n f ts)) l)))
      where
        room : {q q' : Refusal} {o : Option Refusal} → q ≡ q' → Some q' ≡ o → first_of (o ∷ blocking n f ts ∷ []) ≡ Some q
        room {o = None} e h = none-some (sym h)
        room {o = Some p} e h = sym h ∙ ap Some (sym e)

    pub room_enough : (count : ℕ) → count ≡ length (sets.required n f ts) → n * count ≤ length before → length (sets.required n f ts) * n ≤ length before
    room_enough count c l = rw (← c, mul_comm count n) l

    pub promised : {after : List ℕ} {a : Minimised} (count : ℕ) → count ≡ length (sets.required n f ts) → n * count ≤ length before
        → Answered n (transition.off f) (sets.privileged n f ts) (sets.required n f ts) before after a → Promise n f ts before after a
    promised {after} {a} count c l h = go (blocking n f ts) refl
      where
        enough : n * length (sets.required n f ts) ≤ length before
        enough = rw c at l

        none-room : room_check n f ts (length before) ≡ None
        none-room = sym (refuse_no (ltb (length before) (n * length (sets.required n f ts))) 9 (λ t. not-le_of_lt (ltb→lt (length before) (n * length (sets.required n f ts)) t) enough))

        checks : first_of (minimiser_checks n f ts (length before)) ≡ blocking n f ts
        checks = first_of-right (input_checks n f ts) late ok ∙ first_of-right (room_check n f ts (length before) ∷ []) (blocking n f ts ∷ []) (first_of-one (room_check n f ts (length before)) ∙ none-room) ∙ first_of-one (blocking n f ts)

        go : (o : Option Refusal) → blocking n f ts ≡ o → Promise n f ts before after a
        go (Some q) e = rw ((h.refused q e).0, refused-kept n (transition.off f) (sets.privileged n f ts) (sets.required n f ts) h e) (promise_refused n f ts before (checks ∙ e))
        go None e =
            let s = h.network e in
            let net = network_in n s.words in
            let size : length net ≡ length s.words = length-map s.words (cube_in n) in
            rw (s.size, ← size) (promise_written n f ts before net (checks ∙ e)
            (minimal n f ts ok net s.kept.primes s.kept.covers s.kept.own s.sequence) (s.is ∙ ap (λ (z : ℕ). bytes_of net ++ drop z before) (mul_comm (length s.words) n ∙ ap (λ (z : ℕ). n * z) (sym size))))

    -- The bytes that are asked for are few.
    pub bytes-few : (count : ℕ) → count ≡ length (sets.required n f ts) → n * count ≤ most_cover
    bytes-few count e = let l : count ≤ most_required = omega (arith, e, required-few n f ts ok) in mul-le-mul (few-inputs n f ts ok).1 l

-- What is promised, said of the caller's problem.
pub promised_as : {n m : ℕ} {f g ts us before after : List ℕ} {a : Minimised} → m ≡ n → g ≡ f → us ≡ ts → Promise m g us before after a → Promise n f ts before after a
promised_as e p q h = rw (← e, ← p, ← q) h
