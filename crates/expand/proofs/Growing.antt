-- The loop that grows a cube.
use mathlib.Core.Path.{◌≡◌, refl, sym, ◌∙◌}
use mathlib.Core.Bool.{Bool}
use mathlib.Core.List.{List}
use Rattle.std.specs.Prelude.{Option, None, Some}
use Prim.Native.Nat.{ℕ, zero, suc, ◌+◌, ◌-◌, ◌≤◌, ◌<◌}
use native.Mathlib.Nat.{sub-zero, sub-eq-zero_of_le}
use native.Mathlib.Numerals.{add-one}
use native.Mathlib.Omega.{arith}
use Rattle.hazard.specs.Search.{find}
use Rattle.hazard.specs.Cube.{Cube, join}
use Rattle.hazard.specs.Sets.{Privileged}
use Rattle.hazard.specs.Implicant.{illegal, lowest_zero}
use Rattle.hazard.specs.Growth.{Growth, Legal, Blocked, grow_from, grow}
use Rattle.hazard.specs.Added.{AgreeOnAdded, lowest_added}
use Rattle.hazard.proofs.Added.{added_lowest}
use Rattle.cube.proofs.Scan.{left}

-- What a reading of the added points finds is the cube's lowest zero, where the cube before has none.
pub zero-added : (n : ℕ) (off : ℕ → Bool) (old new : Cube) {found : Option ℕ} → lowest_zero n off old ≡ None → ((other : ℕ → Bool) → AgreeOnAdded n off other old new → found ≡ lowest_added n other old new)
    → found ≡ lowest_zero n off new
zero-added n off old new e h = h off (λ x l t. refl) ∙ sym (added_lowest n off old new e)

module _ (n : ℕ) (off : ℕ → Bool) (vs : List Privileged) where
  blocked_at : (c : Cube) (k s z : ℕ) → lowest_zero n off c ≡ Some z → Blocked z s ≡ grow_from n off vs k c s
  blocked_at c zero s z e = rw (e, grow_from)
  blocked_at c (suc k) s z e = rw (e, grow_from)

  -- A cube with a zero is blocked before any step.
  pub blocked_first : (c : Cube) {z : ℕ} → lowest_zero n off c ≡ Some z → Blocked z 0 ≡ grow n off vs c
  blocked_first c {z} e = blocked_at c n 0 z e

  -- The cube c has no zero, and the whole answer g is what growth gives from it, s steps on.
  pub record Growing (c : Cube) (s : ℕ) (g : Growth) : Type 0 where
    pub low : s ≤ n
    pub zeros : lowest_zero n off c ≡ None
    pub rest : g ≡ grow_from n off vs (n - s) c s

  pub growing_start : (c : Cube) → lowest_zero n off c ≡ None → Growing c 0 (grow n off vs c)
  growing_start c e = record { low = omega arith; zeros = e; rest = rw sub-zero }

module _ {n : ℕ} {off : ℕ → Bool} {vs : List Privileged} {c : Cube} {s : ℕ} {g : Growth} (r : Growing n off vs c s g) where
  pub growing_legal : s < n → find (illegal c) vs ≡ None → Legal c s ≡ g
  growing_legal h i = rw (r.rest, left n s h, r.zeros, i, grow_from)

  -- One step, to the wider cube d, of which the added points are read.
  module _ {v : Privileged} (h : s < n) (i : find (illegal c) vs ≡ Some v) {d : Cube} (e : d ≡ join c v.start) {found : Option ℕ}
      (read : (other : ℕ → Bool) → AgreeOnAdded n off other c d → found ≡ lowest_added n other c d) where
    more : g ≡ grow_from n off vs (n - (s + 1)) d (s + 1)
    more = rw (r.rest, left n s h, r.zeros, i, e, grow_from, add-one)

    pub growing_blocked : {z : ℕ} → found ≡ Some z → Blocked z (s + 1) ≡ g
    growing_blocked {z} k = blocked_at n off vs d (n - (s + 1)) (s + 1) z (sym (zero-added n off c d r.zeros read) ∙ k) ∙ sym more

    pub growing_step : found ≡ None → Growing n off vs d (s + 1) g
    growing_step k = record { low = omega arith; zeros = sym (zero-added n off c d r.zeros read) ∙ k; rest = more }

  pub growing_end : n ≤ s → Legal c s ≡ g
  growing_end h = rw (r.rest, sub-eq-zero_of_le h, r.zeros, grow_from)
