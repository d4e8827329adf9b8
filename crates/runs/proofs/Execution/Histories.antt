-- Histories: the states that they leave, what holds of all their events, and what they were earlier.
use Rattle.runs.proofs.Base.{◌≡◌, refl, ap, ◌≢◌, ◌⊎◌, inl, inr, Bool, true, false, cond, [], ◌∷◌, ◌++◌, ℕ, T}
use Rattle.runs.proofs.Base.{eqb, eqb→eq, eqb_refl}
use Rattle.runs.specs.Execution.{waiting, State, Event, History, node_of, status_of, moved, status_after, Earlier}
use Rattle.runs.specs.Execution.{none_later, one_later}
use Rattle.runs.specs.Classes.{All, all_nil, all_cons, Anything}
use Rattle.runs.proofs.Reflect.{clash, T_true}

-- the states
false_of : (b : Bool) → ¬ T b → b ≡ false
false_of true k = absurd (k tt)
false_of false k = refl

pub after_nil : (x : ℕ) → status_after [] x ≡ waiting
unfolding status_after
after_nil x = refl

-- an event moves its own task and no other
pub moved_same : (s : State) (e : Event) → moved s e (node_of e) ≡ status_of e
moved_same s e = rw (T_true (eqb (node_of e) (node_of e)) (eqb_refl (node_of e)))

pub moved_other : (s : State) (e : Event) (x : ℕ) → x ≢ node_of e → moved s e x ≡ s x
moved_other s e x n = rw (false_of (eqb x (node_of e)) (λ t. n (eqb→eq x (node_of e) t)))

pub after_same : (e : Event) (h : History) → status_after (e ∷ h) (node_of e) ≡ status_of e
unfolding status_after
after_same e h = moved_same (status_after h) e

pub after_other : (e : Event) (h : History) (x : ℕ) → x ≢ node_of e → status_after (e ∷ h) x ≡ status_after h x
unfolding status_after
after_other e h x n = moved_other (status_after h) e x n

pub after_cong : (e : Event) (h k : History) (x : ℕ) → status_after h x ≡ status_after k x
    → status_after (e ∷ h) x ≡ status_after (e ∷ k) x
unfolding status_after
after_cong e h k x q = ap (λ z. cond (eqb x (node_of e)) (status_of e) z) q

module _ {Q : Event → Type 0} where
  pub all_append : {g h : History} → All Q g → All Q h → All Q (g ++ h)
  all_append all_nil b = b
  all_append (all_cons q a) b = all_cons q (all_append a b)

  pub all_left : (g h : History) → All Q (g ++ h) → All Q g
  all_left [] h a = all_nil
  all_left (e ∷ g) h (all_cons q a) = all_cons q (all_left g h a)

  all_earlier : {r h : History} → Earlier r h → All Q h → All Q r
  all_earlier none_later a = a
  all_earlier (one_later q) (all_cons x a) = all_earlier q a

  all_head : {e : Event} {r : History} → All Q (e ∷ r) → Q e
  all_head (all_cons x y) = x

  pub all_at : {e : Event} {r h : History} → Earlier (e ∷ r) h → All Q h → Q e
  all_at q a = all_head (all_earlier q a)

pub all_anything : (h : History) → All Anything h
all_anything [] = all_nil
all_anything (e ∷ h) = all_cons tt (all_anything h)

-- what a history was earlier
pub earlier_append : (g h : History) → Earlier h (g ++ h)
earlier_append [] h = none_later
earlier_append (e ∷ g) h = one_later (earlier_append g h)

pub earlier_compare : {r s h : History} → Earlier r h → Earlier s h → Earlier r s ⊎ Earlier s r
earlier_compare none_later y = inr y
earlier_compare (one_later x) none_later = inl (one_later x)
earlier_compare (one_later x) (one_later y) = earlier_compare x y

pub earlier_nil : {e : Event} {r h : History} → Earlier (e ∷ r) h → h ≡ [] → ⊥
earlier_nil none_later q = clash cc
earlier_nil (one_later x) q = clash cc

pub earlier_inv : {x : Event} {r k : History} → Earlier r (x ∷ k) → (r ≡ x ∷ k) ⊎ Earlier r k
earlier_inv none_later = inl refl
earlier_inv (one_later q) = inr q

pub earlier_trans : {a b c : History} → Earlier a b → Earlier b c → Earlier a c
earlier_trans x none_later = x
earlier_trans x (one_later y) = one_later (earlier_trans x y)
