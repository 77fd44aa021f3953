-- The definitions' verdicts, for the code's.
use Rattle.hazard.specs.Verdict as spec
use Rattle.conditions.specs.declared.fault.Verdict.{Verdict}
use Rattle.conditions.specs.declared.fault.Verdict.TheVariants.{Passed, HoldsZero, Intersects, Uncovered}

-- The verdict, of a network that is not refused.
abbrev pub verdict_of : Verdict → spec.Verdict
verdict_of Passed = spec.passed
verdict_of (HoldsZero j x) = spec.holds_zero j x
verdict_of (Intersects j k) = spec.intersects j k
verdict_of (Uncovered k x) = spec.uncovered k x
