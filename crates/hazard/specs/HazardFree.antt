-- Hazard-free networks (document 01: quiet).
use Rattle.std.specs.Prelude.{◌≡◌, true, false, List, [], ℕ, ◌<◌, ◌^◌, T}
use Rattle.hazard.specs.Transition.{value, start, end, count, visits}
use Rattle.hazard.specs.Sets.{kind_at}
use Rattle.hazard.specs.Cover.{Network, gives}
use Rattle.hazard.specs.Run.{Wire, Run, outputs, Allowed}

-- Every run of every transition is allowed.
abbrev pub RunsAllowed : List ℕ → List ℕ → Network → Type 0
RunsAllowed f ts net = (k : ℕ) → k < count ts → (r : List Wire) → Run (start ts k) (end ts k) net r → Allowed (kind_at f ts k) (outputs (start ts k) (end ts k) net [] r)

-- 0 at each 0 of the table; 1 at each 1, visited by a transition or not; every run of every transition allowed.
pub record HazardFree (n : ℕ) (f ts : List ℕ) (net : Network) : Type 0 where
  pub zeros : (x : ℕ) → x < 2 ^ n → value f x ≡ 0 → gives net x ≡ false
  pub ones : (x : ℕ) → x < 2 ^ n → value f x ≡ 1 → gives net x ≡ true
  pub runs : RunsAllowed f ts net

-- The same with nothing asked at the 1s that no transition visits. No promise speaks of it: there is such a network exactly if there is a
-- hazard-free one.
pub record VisitedHazardFree (n : ℕ) (f ts : List ℕ) (net : Network) : Type 0 where
  pub zeros : (x : ℕ) → x < 2 ^ n → value f x ≡ 0 → gives net x ≡ false
  pub ones : (k : ℕ) → k < count ts → (x : ℕ) → x < 2 ^ n → T (visits n ts k x) → value f x ≡ 1 → gives net x ≡ true
  pub runs : RunsAllowed f ts net
