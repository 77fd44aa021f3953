-- The loop that reads the transitions.
use mathlib.Core.Logic.{◌≢◌}
use mathlib.Core.Path.{◌≡◌, refl, sym, ap, ◌∙◌}
use mathlib.Core.List.{List, [], ◌∷◌, ◌++◌, append_assoc, append-nil}
use Rattle.std.specs.Prelude.{None, Some}
use Prim.Native.Nat.{ℕ, zero, suc, ◌+◌, ◌*◌, ◌≤◌, ◌<◌}
use native.Mathlib.Numerals.{add-one}
use native.Mathlib.Omega.{arith}
use lib.ListN.{length, take, set, length-set, length-append}
use lib.Seq.{take-suc-set}
use Rattle.std.proofs.lemmas.List.{nil_from_length}
use Rattle.problem_text.specs.Decimal.{decimal}
use Rattle.problem_text.specs.Form.{newline, space, transition_lines, flat, Numbers}
use Rattle.problem_text.specs.Read.{transition_line, Lines, lines, other}
use Rattle.problem_text.proofs.Decimal.{decimal-long}
use Rattle.problem_text.proofs.Transitions.{line_spelled, lines_prefix, lines_none}

-- A line more at the end.
lines_snoc : (ps : List (ℕ × ℕ)) (p : ℕ × ℕ) (cs : List ℕ)
    → transition_lines (ps ++ (p ∷ [])) ++ cs ≡ transition_lines ps ++ (decimal p.0 ++ (space ∷ decimal p.1 ++ (newline ∷ cs)))
lines_snoc [] p cs = append_assoc (decimal p.0) (space ∷ decimal p.1 ++ (newline ∷ [])) cs ∙ ap (λ (l : List ℕ). decimal p.0 ++ (space ∷ l)) (append_assoc (decimal p.1) (newline ∷ []) cs)
lines_snoc (q ∷ ps) p cs =
    append_assoc (decimal q.0) (space ∷ decimal q.1 ++ (newline ∷ transition_lines (ps ++ (p ∷ [])))) cs
    ∙ ap (λ (l : List ℕ). decimal q.0 ++ (space ∷ l)) (append_assoc (decimal q.1) (newline ∷ transition_lines (ps ++ (p ∷ []))) cs)
    ∙ ap (λ (l : List ℕ). decimal q.0 ++ (space ∷ decimal q.1 ++ (newline ∷ l))) (lines_snoc ps p cs)
    ∙ sym (append_assoc (decimal q.0) (space ∷ decimal q.1 ++ (newline ∷ transition_lines ps)) rest
    ∙ ap (λ (l : List ℕ). decimal q.0 ++ (space ∷ l)) (append_assoc (decimal q.1) (newline ∷ transition_lines ps) rest))
  where
    rest : List ℕ
    rest = decimal p.0 ++ (space ∷ decimal p.1 ++ (newline ∷ cs))

flat-snoc : (ps : List (ℕ × ℕ)) (p : ℕ × ℕ) → flat (ps ++ (p ∷ [])) ≡ flat ps ++ (p.0 ∷ p.1 ∷ [])
flat-snoc [] p = refl
flat-snoc (q ∷ ps) p = ap (λ (l : List ℕ). q.0 ∷ q.1 ∷ l) (flat-snoc ps p)

numbers-snoc : (ps : List (ℕ × ℕ)) (p : ℕ × ℕ) → Numbers ps → p.0 < 65536 → p.1 < 65536 → Numbers (ps ++ (p ∷ []))
numbers-snoc [] p u a b zero = a
numbers-snoc [] p u a b (suc zero) = b
numbers-snoc [] p u a b (suc (suc k)) = omega arith
numbers-snoc (q ∷ ps) p u a b zero = u 0
numbers-snoc (q ∷ ps) p u a b (suc zero) = u 1
numbers-snoc (q ∷ ps) p u a b (suc (suc k)) = numbers-snoc ps p (λ k. u (suc (suc k))) a b k

-- Two numbers more in the room.
take_two : (room : List ℕ) (k a b : ℕ) → k + 1 < length room → take (k + 2) (set (set room k a) (k + 1) b) ≡ take k room ++ (a ∷ b ∷ [])
take_two room k a b h =
    let two : k + 2 ≡ suc (suc k) = omega arith in
    rw (two, add-one) (take-suc-set (set room k a) (suc k) b (omega (arith, length-set room k a))
    ∙ ap (λ (l : List ℕ). l ++ (b ∷ [])) (take-suc-set room k a (omega arith)) ∙ append_assoc (take k room) (a ∷ []) (b ∷ []))

-- The lines before what is left are read, and their numbers stand in the room. A number takes at least two bytes of text.
pub record Listing (text room : List ℕ) (k : ℕ) (left : List ℕ) : Type 0 where
  pub ps : List (ℕ × ℕ)
  pub is : text ≡ transition_lines ps ++ left
  pub fits : Numbers ps
  pub stored : take k room ≡ flat ps
  pub few : 2 * k + length left ≤ length text

pub listing_start : (text room : List ℕ) → Listing text room 0 text
listing_start text room = record { ps = []; is = refl; fits = λ k. omega arith; stored = refl; few = omega arith }

-- A line takes at least four bytes.
pub listing_far : (left next : List ℕ) {a b : ℕ} → Some (a, b, next) ≡ transition_line left → 4 + length next ≤ length left
listing_far left next {a} {b} e =
    let l = ap length (line_spelled left (sym e)).is in
    omega (arith, l, length-append (decimal a) (space ∷ decimal b ++ (newline ∷ next)), length-append (decimal b) (newline ∷ next), decimal-long a, decimal-long b)

module _ {text room : List ℕ} {k : ℕ} {left : List ℕ} (s : Listing text room k left) where
  pub listing_end : length left ≡ 0 → k ≤ length room → Lines text room (Some k)
  listing_end h l = lines s.ps (s.is ∙ ap (λ (l : List ℕ). transition_lines s.ps ++ l) (nil_from_length left h) ∙ append-nil (transition_lines s.ps)) s.fits s.stored l

  pub listing_none : length left ≢ 0 → None ≡ transition_line left → Lines text room None
  listing_none h e = other (λ qs u q. let (rs, i, j, w) = lines_prefix s.ps qs left s.fits u (sym q ∙ s.is) in lines_none rs w h (sym e) j)

  pub listing_on : (next : List ℕ) {a b : ℕ} → Some (a, b, next) ≡ transition_line left → k + 1 < length room → Listing text (set (set room k a) (k + 1) b) (k + 2) next
  listing_on next {a} {b} e r =
      let line = line_spelled left (sym e) in
      record {
        ps = s.ps ++ ((a, b) ∷ []);
        is = s.is ∙ ap (λ (l : List ℕ). transition_lines s.ps ++ l) line.is ∙ sym (lines_snoc s.ps (a, b) next);
        fits = numbers-snoc s.ps (a, b) s.fits line.start line.end;
        stored = take_two room k a b r ∙ ap (λ (l : List ℕ). l ++ (a ∷ b ∷ [])) s.stored ∙ sym (flat-snoc s.ps (a, b));
        few = omega (arith, s.few, listing_far left next e);
      }
