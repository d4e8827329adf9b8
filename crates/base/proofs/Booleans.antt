-- Tests as equations: put together, taken apart, decided. Assumes nothing.
use mathlib.Core.Path.{◌≡◌, refl, sym}
use mathlib.Core.Logic.{◌≢◌, ◌⊎◌, inl, inr}
use mathlib.Core.Bool.{Bool, beq, true, false, not, ◌&&◌, ◌||◌, false≢true, true≢false}

pub or_split : (a b : Bool) → (a || b) ≡ true → (a ≡ true) ⊎ (b ≡ true)
or_split true b h = inl refl
or_split false b h = inr h

pub or_none : (a b : Bool) → (a || b) ≡ false → (a ≡ false) × (b ≡ false)
or_none true b h = absurd (true≢false h)
or_none false b h = (refl, h)

pub and_both : (a b : Bool) → (a && b) ≡ true → (a ≡ true) × (b ≡ true)
and_both true b h = (refl, h)
and_both false b h = absurd (false≢true h)

pub and_three : (a b c : Bool) → (a && b && c) ≡ true → (a ≡ true) × (b ≡ true) × (c ≡ true)
and_three a b c h = let w = and_both (a && b) c h in let x = and_both a b w.0 in (x.0, x.1, w.1)

pub and_of : (a b : Bool) → a ≡ true → b ≡ true → (a && b) ≡ true
and_of a b p q = rw (p, q)

pub and_middle : (a b c : Bool) → b ≡ false → (a && b && c) ≡ false
and_middle true b c h = rw h
and_middle false b c h = refl

pub either : (a : Bool) → (a ≡ true) ⊎ (a ≡ false)
either true = inl refl
either false = inr refl

-- two tests are equal if each passes where the other does
pub same : (a b : Bool) → (a ≡ true → b ≡ true) → (b ≡ true → a ≡ true) → a ≡ b
same true b f g = sym (f refl)
same false true f g = g refl
same false false f g = refl

pub not_passed : (a : Bool) → (a ≡ true → ⊥) → a ≡ false
not_passed true f = absurd (f refl)
not_passed false f = refl

pub passed_not : (a : Bool) → (a ≡ false → ⊥) → a ≡ true
passed_not true f = refl
passed_not false f = absurd (f refl)

-- two that are told apart, or not
pub beq_same : (a b : Bool) → not (beq a b) ≡ false → a ≡ b
beq_same true true h = refl
beq_same true false h = absurd (true≢false h)
beq_same false true h = absurd (true≢false h)
beq_same false false h = refl

pub beq_other : (a b : Bool) → not (beq a b) ≡ true → a ≢ b
beq_other true true h e = true≢false (sym h)
beq_other true false h e = true≢false e
beq_other false true h e = true≢false (sym e)
beq_other false false h e = true≢false (sym h)

pub beq_self : (a : Bool) → not (beq a a) ≡ false
beq_self true = refl
beq_self false = refl
