-- The sequence in which a network's products stand.
use Rattle.std.specs.Prelude.{Bool, true, false, ◌&&◌, ◌||◌, [], ◌∷◌, eqb, ltb}
use Rattle.hazard.specs.Cube.{Cube}
use Rattle.hazard.specs.Cover.{Network}

-- One product comes before another: their bytes are compared from input 0 on, so an absent literal comes after both others.
abbrev pub before : Cube → Cube → Bool
before [] [] = false
before [] (e ∷ es) = true
before (d ∷ ds) [] = false
before (d ∷ ds) (e ∷ es) = ltb d e || (eqb d e && before ds es)

-- Each product comes before the next, so no two are equal.
abbrev pub ascending : Network → Bool
ascending [] = true
ascending (p ∷ []) = true
ascending (p ∷ q ∷ net) = before p q && ascending (q ∷ net)
