-- What is written for the words that are selected.
use Rattle.std.specs.Prelude.{◌≡◌, Bool, List, ◌++◌, ℕ, ◌*◌, ◌-◌, ◌≤◌, T, length, drop, None, Some, Result, Ok, Err}
use Rattle.hazard.specs.Limits.{most_required}
use Rattle.hazard.specs.Transition.{off}
use Rattle.hazard.specs.Sets.{Required, Privileged, required, privileged}
use Rattle.hazard.specs.Sequence.{ascending}
use Rattle.hazard.specs.Refusal as spec
use Rattle.hazard.specs.Minimal as minimal
use Rattle.cube.specs.Entry.{network_in}
use Rattle.context.specs.declared.planes.Planes.{Planes}
use Rattle.context.specs.Context.{table_in}
use Rattle.selection.specs.Choose.{blocking_of}
use Rattle.selection.specs.declared.select.Places.{Places}
use Rattle.selection.specs.Select.{KeptWords}
use Rattle.refusal.specs.declared.refusal.Refusal as code

-- The words stand within the products, and the buffer has room for their bytes.
abbrev pub Writable : ℕ → (products cover : List ℕ) → Result Places code.Refusal → Type 0
Writable n products cover (Ok places) =
    (places.start ≤ places.end) × (places.end ≤ length products) × (places.end - places.start ≤ most_required) × ((places.end - places.start) * n ≤ length cover)
Writable n products cover (Err q) = Unit {0}

-- The network of the kept words, in sequence, is written from the buffer's beginning on, and its products are counted.
pub record Written (n : ℕ) (off : ℕ → Bool) (vs : List Privileged) (rs : List Required) (before after : List ℕ) (r : minimal.Minimised) : Type 0 where
  pub words : List ℕ
  pub kept : KeptWords n off vs rs words
  pub sequence : T (ascending (network_in n words))
  pub size : r ≡ minimal.written (length words)
  pub is : after ≡ minimal.bytes_of (network_in n words) ++ drop (length words * n) before

-- The answer for an OFF-set, privileged cubes and required cubes: refused and nothing written, or a network written.
pub record Answered (n : ℕ) (off : ℕ → Bool) (vs : List Privileged) (rs : List Required) (before after : List ℕ) (r : minimal.Minimised) : Type 0 where
  pub refused : (q : spec.Refusal) → blocking_of n off vs rs ≡ Some q → (r ≡ minimal.declined q) × (after ≡ before)
  pub network : blocking_of n off vs rs ≡ None → Written n off vs rs before after r

-- The answer for a table's planes and a list of transitions.
abbrev pub AnsweredFor : Planes → (ts before after : List ℕ) → minimal.Minimised → Type 0
AnsweredFor planes ts before after r =
    let n = planes.n.count in
    let f = table_in planes in
    Answered n (off f) (privileged n f ts) (required n f ts) before after r
