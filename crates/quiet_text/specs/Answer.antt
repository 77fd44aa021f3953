-- What the program promises of its output.
use Rattle.std.specs.Prelude.{◌↔◌, ◌≢◌, ◌≡◌, List, [], ◌∷◌, ◌++◌, ℕ, ◌≤◌, ◌<◌, length, drop, Option, None, Some}
use Rattle.hazard.specs.Search.{first_of}
use Rattle.hazard.specs.Cover.{Network}
use Rattle.hazard.specs.Refusal.{Refusal, refusal, input_checks, Accepted}
use Rattle.hazard.specs.Minimal.{blocking, Minimal, NoNetwork}
use Rattle.problem_text.specs.Form.{Form, Formed, flat}
use Rattle.writing.specs.Output.{network_text, most_output, refusal_text}

-- The checks after 13: the minimiser's, without 9, since the buffer that it is lent is long enough.
abbrev pub checks : ℕ → List ℕ → List ℕ → List (Option Refusal)
checks n f ts = input_checks n f ts ++ (blocking n f ts ∷ [])

-- The output is these bytes, so many are counted, and the rest of the buffer is as it was.
pub record Printed (before bytes after : List ℕ) (r : Option ℕ) : Type 0 where
  pub count : r ≡ Some (length bytes)
  pub is : after ≡ bytes ++ drop (length bytes) before

-- What is printed for a problem.
pub record Solved (n : ℕ) (f ts before after : List ℕ) (r : Option ℕ) : Type 0 where
  -- The first refusal by the checks, and it is never 9.
  pub refused : (q : Refusal) → first_of (checks n f ts) ≡ Some q → Printed before (refusal_text q) after r × (q.number ≢ 9)
  -- Not refused: a minimal network.
  pub network : first_of (checks n f ts) ≡ None → (net : Network) × Minimal n f ts net × Printed before (network_text net) after r
  -- Where the input rules hold: refusal 10 exactly if there is no hazard-free network.
  pub none' : Accepted n f ts → ((q : Refusal) × Printed before (refusal_text q) after r × (q.number ≡ 10)) ↔ NoNetwork n f ts

-- What is printed for a text, into a buffer with room for the longest output; a shorter one is left as it was.
pub record Replied (text before after : List ℕ) (r : Option ℕ) : Type 0 where
  pub no_room : length before < most_output → (r ≡ None) × (after ≡ before)
  -- What is counted lies in the buffer.
  pub within : (k : ℕ) → r ≡ Some k → k ≤ length after
  -- The output is never empty.
  pub some' : (k : ℕ) → r ≡ Some k → 0 < k
  -- 13: the text is not of the form.
  pub malformed : most_output ≤ length before → ¬ Formed text → Printed before (refusal_text (refusal 13 0 0)) after r
  -- It is: the answer for what it says.
  pub solved : most_output ≤ length before → (n : ℕ) (f : List ℕ) (ps : List (ℕ × ℕ)) → Form text n f ps → Solved n f (flat ps) before after r
