-- The set pieces hold.
use mathlib.Core.Path.{◌≡◌, refl}
use mathlib.Core.List.{List, [], ◌∷◌}
use Rattle.std.specs.Prelude.{None}
use Prim.Native.Nat.{ℕ}
use lib.Dec.{T}
use Rattle.hazard.specs.Search.{first_of}
use Rattle.hazard.specs.Transition.{fall, high}
use Rattle.hazard.specs.Cover.{Network}
use Rattle.hazard.specs.Refusal.{Accepted}
use Rattle.hazard.specs.Verdict.{products}
use Rattle.hazard.specs.Minimal.{minimiser_checks}
use Rattle.hazard.specs.Piece.{buffer_length, Exactly, Holds}
use Rattle.hazard.specs.Pieces.{net5, net9, pieces}
use Rattle.hazard.proofs.Pulse.{pulse_run}
use Rattle.hazard.proofs.Essential.{essential, essential_minimal, essential_only}

-- Every entry of a list passes.
abbrev pub Every : {A : Type 0} → (A → Type 0) → List A → Type 0
Every P [] = Unit {0}
Every P (a ∷ l) = P a × Every P l

exactly : (n : ℕ) (f ts : List ℕ) (net : Network) → Accepted n f ts → first_of (minimiser_checks n f ts (buffer_length n f ts)) ≡ None → T (essential n f ts net) → Exactly n f ts net
exactly n f ts net a e t = record { taken = e; meets = essential_minimal n f ts a net t; only = essential_only n f ts a net t }

-- K1 to K12, in the order of the table.
pub set-pieces : Every Holds pieces
set-pieces = (
  exactly _ _ _ _ refl refl tt,
  (
    exactly _ _ _ _ refl refl tt,
    (
      refl,
      (
        exactly _ _ _ _ refl refl tt,
        (
          refl,
          (
            (refl, pulse_run high 0 3 7 (products 3 net5), refl),
            (
              refl,
              (
                refl,
                (
                  exactly _ _ _ _ refl refl tt,
                  (
                    refl,
                    (
                      (refl, pulse_run fall 0 6 0 (products 3 net9), refl),
                      (
                        refl,
                        (
                          refl,
                          (
                            refl,
                            tt,
                          ),
                        ),
                      ),
                    ),
                  ),
                ),
              ),
            ),
          ),
        ),
      ),
    ),
  ),
)
