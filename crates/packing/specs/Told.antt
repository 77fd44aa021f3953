-- The definitions' fields of a verdict, for the code's.
use Rattle.hazard.specs.Verdict as spec
use Rattle.packing.specs.declared.verdict.Fields.{Fields}

-- The same five numbers.
abbrev pub fields_told : Fields → spec.Fields
fields_told m = record { number = m.number; refusal = m.refusal; product = m.product; transition = m.transition; point = m.point }
