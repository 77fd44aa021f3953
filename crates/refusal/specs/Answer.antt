-- The definitions' refusals, for the code's.
use Rattle.std.specs.Prelude.{Option, None, Some, Result, Ok, Err}
use Rattle.hazard.specs.Refusal as spec
use Rattle.refusal.specs.declared.fields.Fields.{Fields}
use Rattle.refusal.specs.declared.refusal.Refusal.{Refusal}
use Rattle.refusal.specs.declared.refusal.Refusal.TheVariants.{Inputs, TableLength, TableByte, ListLength, NoPoint, WideBurst, DontCare, FunctionHazard, ShortBuffer, Blocked, NetworkLength, ProductByte, ShortWires, MalformedText}

-- The number of each refusal, and what it names.
abbrev pub refusal_of : Refusal → spec.Refusal
refusal_of Inputs = spec.refusal 1 0 0
refusal_of TableLength = spec.refusal 2 0 0
refusal_of (TableByte x) = spec.refusal 3 0 x
refusal_of ListLength = spec.refusal 4 0 0
refusal_of (NoPoint k) = spec.refusal 5 k 0
refusal_of (WideBurst k) = spec.refusal 14 k 0
refusal_of (DontCare k x) = spec.refusal 6 k x
refusal_of (FunctionHazard k x) = spec.refusal 7 k x
refusal_of ShortBuffer = spec.refusal 9 0 0
refusal_of (Blocked k x s z) = spec.growth_refusal 10 k x s z
refusal_of NetworkLength = spec.refusal 11 0 0
refusal_of (ProductByte j) = spec.product_refusal 12 j
refusal_of ShortWires = spec.refusal 15 0 0
refusal_of MalformedText = spec.refusal 13 0 0

-- The refusal that a number and fields tell.
abbrev pub told_by : Fields → spec.Refusal
told_by r = record { number = r.number; transition = r.transition; point = r.point; steps = r.steps; lowest = r.lowest; product = r.product }

-- The refusal of an answer that is one.
abbrev pub refused_by : {A : Type 0} → Result A Refusal → Option spec.Refusal
refused_by (Ok x) = None
refused_by (Err r) = Some (refusal_of r)
