-- Monotone transitions: on the way from a to b, a value that no single move leaves is kept.
use mathlib.Core.Path.{◌≡◌, sym, ap, ◌∙◌, subst}
use mathlib.Core.Logic.{◌≢◌, ◌↔◌}
use mathlib.Core.Bool.{◌&&◌}
use mathlib.Core.List.{List}
use Prim.Native.Nat.{ℕ, zero, suc, ◌-◌, ◌^◌, ◌≤◌, ◌<◌}
use native.Mathlib.Omega.{arith}
use native.Mathlib.Decide.{ℕ_discrete}
use lib.Dec.{T, eqb}
use Rattle.hazard.specs.Cube.{bit, flip, has, span}
use Rattle.hazard.specs.Transition.{value, movable, further, dynamic_hazard}
use Rattle.hazard.proofs.Test.{tests}
use Rattle.hazard.proofs.Search.{any_e, any_i}
use Rattle.hazard.proofs.Point.{bits-same, In, in_e, in_i, span_swap, flip-same, flip-other, flip-lt, flip_back}

-- Input i of x may still move, on the way from a to b.
pub record Moves (n a b x i : ℕ) : Type 0 where
  pub input : i < n
  pub differs : bit a i ≢ bit b i
  pub early : bit x i ≡ bit a i

-- The point one move further: it lies in [a,b] if x does, it lies in [x,b], and x lies before it.
module _ {n a b x i : ℕ} (m : Moves n a b x i) where
  pub move_in : In n a b x → In n a b (flip x i)
  move_in r j l e = elim (ℕ_discrete i j) [ yes c ↦ absurd (m.differs (rw c e)) | no c ↦ r j l e ∙ sym (flip-other x i j c) ]

  pub move_rest : In n x b (flip x i)
  move_rest j l e = elim (ℕ_discrete i j) [ yes c ↦ absurd (m.differs (sym m.early ∙ rw c e)) | no c ↦ sym (flip-other x i j c) ]

  pub move_past : In n a (flip x i) x
  move_past j l e = elim (ℕ_discrete i j) [ yes c ↦ rw (← c) (sym m.early) | no c ↦ e ∙ flip-other x i j c ]

  -- The same move in reverse.
  pub move_back : Moves n b a (flip x i) i
  move_back = record { input = m.input; differs = λ e. m.differs (sym e); early = omega (arith, flip-same x i) }

-- Some point one move further has the value v.
pub further_e : (n : ℕ) (f : List ℕ) (a b x v : ℕ) → T (further n f a b x v) → (i : ℕ) × Moves n a b x i × (value f (flip x i) ≡ v)
further_e n f a b x v t =
    let (i, l, u) = any_e (λ i. movable a b x i && eqb (value f (flip x i)) v) n t in
    let w = simp tests at u in
    (i, record { input = l; differs = w.0.0; early = w.0.1 }, w.1)

pub further_i : (n : ℕ) (f : List ℕ) (a b x i v : ℕ) → Moves n a b x i → value f (flip x i) ≡ v → T (further n f a b x v)
further_i n f a b x i v m e = any_i (λ i. movable a b x i && eqb (value f (flip x i)) v) n i m.input (simp tests ((m.differs, m.early), e))

-- The point x has the value v and the other value one move further.
pub turns_e : (n : ℕ) (f : List ℕ) (a b v x : ℕ) → T (dynamic_hazard n f a b v x) → (value f x ≡ v) × (i : ℕ) × Moves n a b x i × (value f (flip x i) ≡ 1 - v)
turns_e n f a b v x t = let r = simp tests at t in let (i, m, e) = further_e n f a b x (1 - v) r.1 in (r.0, i, m, e)

pub turns_i : (n : ℕ) (f : List ℕ) (a b v x i : ℕ) → value f x ≡ v → Moves n a b x i → value f (flip x i) ≡ 1 - v → T (dynamic_hazard n f a b v x)
turns_i n f a b v x i e m h = simp tests (e, further_i n f a b x i (1 - v) m h)

-- f is defined on [a,b].
abbrev pub Defined : ℕ → List ℕ → ℕ → ℕ → Type 0
Defined n f a b = (x : ℕ) → x < 2 ^ n → T (has (span n a b) x) → value f x < 2

-- The rule of a dynamic transition: no point of [a,b] with the value v has the other value one move further.
abbrev pub Steady : ℕ → List ℕ → ℕ → ℕ → ℕ → Type 0
Steady n f a b v = (x : ℕ) → x < 2 ^ n → T (has (span n a b) x) → ¬ T (dynamic_hazard n f a b v x)

-- The rule for v from a to b is the rule for the other value from b to a.
steady_swap : (n : ℕ) (f : List ℕ) (a b v : ℕ) → v ≤ 1 → Steady n f a b v → Steady n f b a (1 - v)
steady_swap n f a b v h s x l t u =
    let (e, i, m, g) = turns_e n f b a (1 - v) x u in
    s (flip x i) (flip-lt n x i l m.input) (span_swap n b a (flip x i) (in_i n b a (flip x i) (move_in m (in_e n b a x t))))
    (turns_i n f a b v (flip x i) i (g ∙ omega arith) (move_back m) (ap (value f) (flip_back x i) ∙ e))

-- The rise rule from a to b is the fall rule from b to a.
pub rise_fall : (n : ℕ) (f : List ℕ) (a b : ℕ) → Steady n f a b 1 ↔ Steady n f b a 0
rise_fall n f a b = (steady_swap n f a b 1 (omega arith), steady_swap n f b a 0 (omega arith))

module _ (n : ℕ) (f : List ℕ) (a b v : ℕ) (small : v ≤ 1) (defined : Defined n f a b) (steady : Steady n f a b v) where
  move_keeps : (z i : ℕ) → z < 2 ^ n → In n a b z → value f z ≡ v → Moves n a b z i → value f (flip z i) ≡ v
  move_keeps z i l r e m =
      let d = defined (flip z i) (flip-lt n z i l m.input) (in_i n a b (flip z i) (move_in m r)) in
      let ne : value f (flip z i) ≢ 1 - v = λ h. steady z l (in_i n a b z r) (turns_i n f a b v z i e m h) in
      omega arith

  -- From z to w, one input at a time: those from k on are as in w.
  walk : (w : ℕ) → w < 2 ^ n → (k z : ℕ) → k ≤ n → z < 2 ^ n → In n a b z → In n z b w → value f z ≡ v → ((i : ℕ) → k ≤ i → i < n → bit z i ≡ bit w i) → value f w ≡ v
  walk w u zero z h l r q e s = subst (λ (y : ℕ). value f y ≡ v) (bits-same n z w l u (λ i. s i (omega arith))) e
  walk w u (suc k) z h l r q e s =
      elim (ℕ_discrete (bit z k) (bit w k)) [
        | yes c ↦ walk w u k z (omega arith) l r q e (λ i p t. elim (ℕ_discrete k i) [ yes d ↦ rw (← d) c | no d ↦ s i (omega arith) t ])
        | no c ↦ let m : Moves n a b z k = record { input = h; differs = λ d. c (q k h (sym (r k h d) ∙ d)); early = early c } in
            let o : bit (flip z k) k ≡ bit w k = omega (arith, flip-same z k) in
            walk w u k (flip z k) (omega arith) (flip-lt n z k l h) (move_in m r)
            (λ j t d. elim (ℕ_discrete k j) [ yes g ↦ rw (← g) o | no g ↦ flip-other z k j g ∙ q j t (sym (flip-other z k j g) ∙ d) ])
            (move_keeps z k l r e m)
            (λ i p t. elim (ℕ_discrete k i) [ yes g ↦ rw (← g) o | no g ↦ flip-other z k i g ∙ s i (omega arith) t ])
      ]
    where
      early : bit z k ≢ bit w k → bit z k ≡ bit a k
      early c = let d : bit z k ≢ bit b k = λ t. c (q k h t) in elim (ℕ_discrete (bit a k) (bit b k)) [ yes t ↦ sym (r k h t) | no t ↦ omega arith ]

  -- If z has the value v, so has every point of [z,b].
  pub kept_on : (z w : ℕ) → z < 2 ^ n → w < 2 ^ n → T (has (span n a b) z) → T (has (span n z b) w) → value f z ≡ v → value f w ≡ v
  kept_on z w l u t s e = walk w u n z (omega arith) l (in_e n a b z t) (in_e n z b w s) e (λ i p q. absurd (omega arith))
