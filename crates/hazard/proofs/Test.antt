-- Boolean tests as facts.
use mathlib.Core.Path.{◌≡◌, refl, subst, subst⁻¹}
use mathlib.Core.Logic.{◌↔◌, ◌⊎◌, inl, inr}
use mathlib.Core.Bool.{Bool, true, false, not, cond, ◌&&◌, ◌||◌}
use Prim.Native.Nat.{ℕ, ◌≤◌}
use lib.Dec.{T, eqb, leb, eqb→eq, eqb_refl, leb→le, le→leb, T_not, not_T}

pub is : {b : Bool} → T b → b ≡ true
is {b = true} t = refl
is {b = false} t = absurd t

pub isnt : (b : Bool) → ¬ T b → b ≡ false
isnt true t = absurd (t tt)
isnt false t = refl

pub so : {b : Bool} → b ≡ true → T b
so e = subst⁻¹ T e tt

pub so_not : {b : Bool} → b ≡ false → ¬ T b
so_not e t = subst T e t

pub known : (b : Bool) → T b ⊎ (¬ T b)
known true = inl tt
known false = inr (λ t. t)

pub bool_ext : (a b : Bool) → (T a → T b) → (T b → T a) → a ≡ b
bool_ext true true f g = refl
bool_ext true false f g = absurd (f tt)
bool_ext false true f g = absurd (g tt)
bool_ext false false f g = refl

pub eqb_of : {m n : ℕ} → m ≡ n → T (eqb m n)
eqb_of {m} e = subst (λ (k : ℕ). T (eqb m k)) e (eqb_refl m)

pub eqb_self : (n : ℕ) → eqb n n ≡ true
eqb_self n = is {b = eqb n n} (eqb_refl n)

-- `simp tests at t` takes a test apart, `simp tests p` makes one.
pub T_and : (a b : Bool) → T (a && b) ↔ (T a × T b)
T_and true b = (λ t. (tt, t), λ p. p.1)
T_and false b = (λ t. absurd t, λ p. p.0)

pub T-or : (a b : Bool) → T (a || b) ↔ (¬ T a → T b)
T-or true b = (λ t u. absurd (u tt), λ f. tt)
T-or false b = (λ t u. t, λ f. f (λ z. z))

pub T_no : (b : Bool) → T (not b) ↔ (¬ T b)
T_no b = (T_not b, not_T b)

pub T-eqb : (m n : ℕ) → T (eqb m n) ↔ (m ≡ n)
T-eqb m n = (eqb→eq m n, eqb_of)

pub T-leb : (m n : ℕ) → T (leb m n) ↔ (m ≤ n)
T-leb m n = (leb→le m n, le→leb m n)

pub ruleset tests = (T_and, T-or, T_no, T-eqb, T-leb)

pub or_l : (a b : Bool) → T a → T (a || b)
or_l a b t = simp tests (λ u. absurd (u t))

pub or_r : (a b : Bool) → T b → T (a || b)
or_r a b t = simp tests (λ u. t)

pub or_e : (a b : Bool) → T (a || b) → T a ⊎ T b
or_e true b t = inl t
or_e false b t = inr t

pub no_or : (a b : Bool) → ¬ T (a || b) → (¬ T a) × (¬ T b)
no_or a b t = (λ u. t (or_l a b u), λ u. t (or_r a b u))

-- What is not ruled out holds.
pub sure : (b : Bool) → ¬ T (not b) → T b
sure true t = tt
sure false t = t tt

-- A choice made.
pub cond_yes : {A : Type 0} (b : Bool) (x y : A) → T b → cond b x y ≡ x
cond_yes true x y t = refl
cond_yes false x y t = absurd t

pub cond_no : {A : Type 0} (b : Bool) (x y : A) → ¬ T b → cond b x y ≡ y
cond_no true x y t = absurd (t tt)
cond_no false x y t = refl
