-- The definitions' runs, for the code's.
use Rattle.std.specs.Prelude.{Option, None, Some, ◌≡◌, List, [], ◌++◌, ℕ, ◌*◌, ◌<◌, length, get_or, drop}
use Rattle.hazard.specs.Transition.{count, start, end}
use Rattle.hazard.specs.Cover.{Network}
use Rattle.hazard.specs.Run.{Wire}
use Rattle.hazard.specs.Verdict.{Verdict, refused, passed, holds_zero, intersects, uncovered}
use Rattle.hazard.specs.Shown.{numbers}
use Rattle.hazard.specs.Pulse as spec
use Rattle.points.specs.declared.set.PointSet.{PointSet}
use Rattle.context.specs.declared.planes.Planes.{Planes}
use Rattle.kinds.specs.Codes.{kind_is, kind_in}
use Rattle.kinds.specs.Listed.{Listed}
use Rattle.kinds.specs.Ready.{Ready}
use Rattle.witness.specs.declared.pulse.Pulse.{Pulse}

-- The wires that move in phase q.
abbrev pub phase_in : Pulse → Network → ℕ → List Wire
phase_in p net q = spec.in_phase (kind_is p.kind) p.product p.ends.start p.ends.end net q

-- The whole run.
abbrev pub run_in : Pulse → Network → List Wire
run_in p net = spec.pulse (kind_is p.kind) p.product p.ends.start p.ends.end net

-- The wires of a run, or none where there is none.
abbrev pub witness_of : Option Pulse → Network → List Wire
witness_of (Some p) net = run_in p net
witness_of None net = []

-- The run is that of transition k, with the kind that the ones say, for product j.
pub record PulseOf (ones ts : List ℕ) (j k : ℕ) (p : Pulse) : Type 0 where
  pub kind' : kind_is p.kind ≡ kind_in ones (start ts k) (end ts k)
  pub product' : p.product ≡ j
  pub start' : p.ends.start ≡ start ts k
  pub end' : p.ends.end ≡ end ts k

-- All ends are points of ten inputs.
abbrev pub Ends : List ℕ → Type 0
Ends ts = (i : ℕ) → get_or ts i 0 < 1024

-- A transition that the verdict says is intersected is one of the list.
abbrev pub Named : List ℕ → Verdict → Type 0
Named ts (refused r) = Unit {0}
Named ts passed = Unit {0}
Named ts (holds_zero j x) = Unit {0}
Named ts (intersects j k) = k < count ts
Named ts (uncovered k x) = Unit {0}

-- The ones are those of the planes, and the planes and the list are a problem's.
pub record Reads (planes : Planes) (n : ℕ) (ones : PointSet) (ts : List ℕ) : Type 0 where
  pub ones' : planes.ones ≡ ones
  pub listed : Listed n ts
  pub ready : Ready planes n ts

-- The wires stand at the buffer's beginning, the rest is as before, and they are counted.
pub record Written (ws : List Wire) (before after : List ℕ) (size : ℕ) : Type 0 where
  pub counted : size ≡ length ws
  pub buffer : after ≡ numbers ws ++ drop (2 * length ws) before
