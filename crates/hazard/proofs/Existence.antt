-- A cover exists exactly if no required cube blocks.
use mathlib.Core.Logic.{◌↔◌}
use mathlib.Core.Bool.{Bool}
use mathlib.Core.List.Memᴰ
use mathlib.Core.List.{List, Memᴰ, map}
use Prim.Native.Nat.{ℕ}
use lib.Dec.{T}
use Rattle.hazard.specs.Cube.{Cube}
use Rattle.hazard.specs.Sets.{Required, Privileged}
use Rattle.hazard.specs.Growth.{Growth, Legal, Blocked, Grown, grow}
use Rattle.hazard.specs.Expansion.{grown_or}
use Rattle.hazard.specs.Cover.{Network, product_at, WellFormed, covered, Cover}
use Rattle.hazard.proofs.Cube.{Digits, Inside, digits→, →digits, has→, →has, has_dec, inside→, →inside}
use Rattle.hazard.proofs.Implicant.{illegal→, →illegal, Dhf, Wide}
use Rattle.hazard.proofs.Growth.{Ends, legal, grow_ends, blocked_none}
use Rattle.hazard.proofs.Network.{entry_at, covered_e, covered_by}

module _ (n : ℕ) (off : ℕ → Bool) (rs : List Required) (vs : List Privileged) (wide : Wide n vs) where
  -- The products of a cover are dhf-implicants, and dhf-implicants that cover the required cubes are a cover.
  pub cover-dhf : (net : Network) → WellFormed n net → Cover n off rs vs net → (p : Cube) → Memᴰ p net → Dhf n off vs p
  cover-dhf net good h p m =
      record {
        digits = w;
        clean = λ x l o k. h.a p m x l o (→has k);
        closed = λ v u x i j. elim (has_dec p v.start) [ yes y ↦ y | no y ↦ absurd (h.c p m v u (→illegal {v = v} w (wide v u) (record { shared = x; mine = i; its = j; lacks = y }))) ];
      }
    where
      w : Digits n p
      w = digits→ n p (good p m)

  pub dhf-cover : (net : Network) → ((p : Cube) → Memᴰ p net → Dhf n off vs p) → ((r : Required) → Memᴰ r rs → T (covered net r.cube)) → Cover n off rs vs net
  dhf-cover net d b =
      record {
        a = λ p m x l o k. (d p m).clean x l o (has→ p x k);
        b = b;
        c = λ p m v u t. let i = illegal→ {v = v} (d p m).digits (wide v u) t in i.lacks ((d p m).closed v u i.shared i.mine i.its);
      }

  module _ (digits : (r : Required) → Memᴰ r rs → Digits n r.cube) where
    -- The grown required cubes.
    grown_cube : Required → Cube
    grown_cube r = grown_or r.cube (grow n off vs r.cube)

    grown_is : (c : Cube) → Digits n c → Grown (grow n off vs c) → Dhf n off vs (grown_or c (grow n off vs c)) × Inside c (grown_or c (grow n off vs c))
    grown_is c w = go (grow n off vs c) (grow_ends n off vs wide w)
      where
        go : (g : Growth) → Ends n off vs c g → Grown g → Dhf n off vs (grown_or c g) × Inside c (grown_or c g)
        go (Legal d s) (legal h i m) u = (h, i)
        go (Blocked z s) e u = absurd u

    free-cover : ((r : Required) → Memᴰ r rs → Grown (grow n off vs r.cube)) → (net : Network) × WellFormed n net × Cover n off rs vs net
    unfolding grown_cube
    free-cover h = (
      map grown_cube rs,
      λ p m. →digits (dhf p m).digits,
      dhf-cover (map grown_cube rs) dhf
          (λ r m. covered_by r.cube (Memᴰ.map grown_cube m) (→inside (grown_is r.cube (digits r m) (h r m)).1)),
    )
      where
        dhf : (p : Cube) → Memᴰ p (map grown_cube rs) → Dhf n off vs p
        dhf p m = let (r, u, e) = Memᴰ.of_map grown_cube rs m in rw (← e) (grown_is r.cube (digits r u) (h r u)).0

    cover-free : (net : Network) → WellFormed n net → Cover n off rs vs net → (r : Required) → Memᴰ r rs → Grown (grow n off vs r.cube)
    cover-free net good h r m = go (grow n off vs r.cube) (grow_ends n off vs wide (digits r m))
      where
        go : (g : Growth) → Ends n off vs r.cube g → Grown g
        go (Legal c s) e = tt
        go (Blocked z s) e = let (j, l, i) = covered_e net r.cube (h.b r m) in
            let p = product_at net j in blocked_none n off vs wide e p (cover-dhf net good h p (entry_at net j l)) (inside→ r.cube p i)

    pub cover_exists : ((r : Required) → Memᴰ r rs → Grown (grow n off vs r.cube)) ↔ ((net : Network) × WellFormed n net × Cover n off rs vs net)
    cover_exists = (free-cover, λ h. cover-free h.0 h.1 h.2)
