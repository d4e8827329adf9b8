-- Where orders rise in number, as the rules ask, the root's children in rising order are a sequence; so a CLEAR plan
-- has one under which it is CLEAR, and a DOOMED plan has none.
use Rattle.runs.proofs.Base.{◌≡◌, refl, ◌≢◌, ◌⊎◌, inl, inr, Bool, true, false, cond, List, [], ◌∷◌, Among, here, there}
use Rattle.runs.proofs.Base.{among_none, among_cases, ℕ, zero, suc, ◌+◌, ◌<◌, ◌≤◌, arith, ℕ_discrete, T}
use Rattle.runs.specs.Plan.{all_of, Plan, Child}
use Rattle.runs.specs.WellFormed.{WellFormed, Accepted}
use Rattle.runs.specs.Verdict.{Clear, Doomed}
use Rattle.sequences.specs.Sequences.{Ahead, at_front, further_on, Sequence, Refused23, not_all_of, Sought}
use Rattle.sequences.specs.Sequences.{refused_23}
use Rattle.sequences.specs.Sequences.{refused_24, found}
use Rattle.runs.specs.Model.Trees.{child_b}
use Rattle.runs.proofs.Reflect.{clash, Reflects, decided, force}
use Rattle.runs.proofs.Plan.Chains.{order_child}
use Rattle.runs.proofs.Plan.Reflect.{r_kind, r_child}
use Rattle.runs.proofs.Plan.Accepted.{accepted_well_formed}
use Rattle.sequences.proofs.Lists.{ahead_inv}
use Rattle.sequences.proofs.Serial.{serial_clears}
use Rattle.sequences.proofs.Scan.{clear_serial, doomed_serial}

module _ (p : Plan) where
  -- the root's children from n on, below n + k, in rising order
  unfoldable pub children_from : ℕ → ℕ → List ℕ
  children_from zero n = []
  children_from (suc k) n = cond (child_b p 0 n) (n ∷ children_from k (suc n)) (children_from k (suc n))

  from_child : (k n c : ℕ) → Among c (children_from k n) → Child p 0 c × (n ≤ c)
  unfolding children_from
  from_child zero n c i = absurd (among_none i)
  from_child (suc k) n c i = at (child_b p 0 n) (r_child p 0 n) i (from_child k (suc n) c)
    where
      past : Child p 0 c × (suc n ≤ c) → Child p 0 c × (n ≤ c)
      past (h, l) = (h, omega arith)

      here_or_past : Child p 0 n → (c ≡ n) ⊎ Among c (children_from k (suc n))
          → (Among c (children_from k (suc n)) → Child p 0 c × (suc n ≤ c)) → Child p 0 c × (n ≤ c)
      here_or_past h (inl e) ih = (rw e h, omega arith)
      here_or_past h (inr j) ih = past (ih j)

      at : (b : Bool) → Reflects b (Child p 0 n)
          → Among c (cond b (n ∷ children_from k (suc n)) (children_from k (suc n)))
          → (Among c (children_from k (suc n)) → Child p 0 c × (suc n ≤ c)) → Child p 0 c × (n ≤ c)
      at true r j ih = here_or_past (r.to tt) (among_cases j) ih
      at false r j ih = past (ih j)

  from_every : (k n c : ℕ) → Child p 0 c → n ≤ c → c < n + k → Among c (children_from k n)
  unfolding children_from
  from_every zero n c h l m = absurd (omega arith)
  from_every (suc k) n c h l m = at (child_b p 0 n) (r_child p 0 n) (ℕ_discrete c n)
      (λ ne. from_every k (suc n) c h (omega arith) (omega arith))
    where
      at : (b : Bool) → Reflects b (Child p 0 n) → Dec (c ≡ n) → (¬ (c ≡ n) → Among c (children_from k (suc n)))
          → Among c (cond b (n ∷ children_from k (suc n)) (children_from k (suc n)))
      at true r (yes e) ih = here e
      at true r (no ne) ih = there (ih ne)
      at false r (yes e) ih = absurd (r.from (rw e at h))
      at false r (no ne) ih = ih ne

  from_rises : (k n a b : ℕ) → Ahead a b (children_from k n) → a < b
  unfolding children_from
  from_rises zero n a b q = absurd (elim q [ ])
  from_rises (suc k) n a b q = at (child_b p 0 n) q (from_rises k (suc n) a b)
    where
      first_or_later : ((a ≡ n) × Among b (children_from k (suc n))) ⊎ Ahead a b (children_from k (suc n))
          → (Ahead a b (children_from k (suc n)) → a < b) → a < b
      first_or_later (inl (e, j)) ih = omega (arith, e, (from_child k (suc n) b j).1)
      first_or_later (inr z) ih = ih z

      at : (c : Bool) → Ahead a b (cond c (n ∷ children_from k (suc n)) (children_from k (suc n)))
          → (Ahead a b (children_from k (suc n)) → a < b) → a < b
      at true z ih = first_or_later (ahead_inv z) ih
      at false z ih = ih z

  from_ahead : (k n a b : ℕ) → Among a (children_from k n) → Among b (children_from k n) → a < b
      → Ahead a b (children_from k n)
  unfolding children_from
  from_ahead zero n a b i j l = absurd (among_none i)
  from_ahead (suc k) n a b i j l = at (child_b p 0 n) i j (from_ahead k (suc n) a b)
    where
      both : (a ≡ n) ⊎ Among a (children_from k (suc n)) → (b ≡ n) ⊎ Among b (children_from k (suc n))
          → (Among a (children_from k (suc n)) → Among b (children_from k (suc n)) → a < b
          → Ahead a b (children_from k (suc n)))
          → Ahead a b (n ∷ children_from k (suc n))
      both (inl e) (inl d) ih = absurd (omega (arith, e, d))
      both (inl e) (inr y) ih = rw e (at_front y)
      both (inr x) (inl d) ih = absurd (omega (arith, d, (from_child k (suc n) a x).1))
      both (inr x) (inr y) ih = further_on (ih x y l)

      at : (c : Bool) → Among a (cond c (n ∷ children_from k (suc n)) (children_from k (suc n)))
          → Among b (cond c (n ∷ children_from k (suc n)) (children_from k (suc n)))
          → (Among a (children_from k (suc n)) → Among b (children_from k (suc n)) → a < b
          → Ahead a b (children_from k (suc n)))
          → Ahead a b (cond c (n ∷ children_from k (suc n)) (children_from k (suc n)))
      at true x y ih = both (among_cases x) (among_cases y) ih
      at false x y ih = ih x y l

  pub rising_sequence : WellFormed p → ((a b : ℕ) → T (p.order a b) → a < b)
      → Sequence p (children_from p.tree.size 0)
  rising_sequence w rises = record {
    child = λ c i. (from_child p.tree.size 0 c i).0;
    every = every;
    once = λ c q. omega (arith, from_rises p.tree.size 0 c c q);
    agrees = λ a b hb o. from_ahead p.tree.size 0 a b (every a (order_child p w a hb o)) (every b hb) (rises a b o);
  }
    where
      every : (c : ℕ) → Child p 0 c → Among c (children_from p.tree.size 0)
      every c h = from_every p.tree.size 0 c h (omega arith) (omega (arith, w.node_below c h.node))

pub root_all_of : {p : Plan} → ¬ Refused23 p → p.tree.kind 0 ≡ all_of
root_all_of k = force (decided (r_kind _ _)) (λ n. k (not_all_of n))

-- for an accepted plan that is CLEAR the answer is 23 or a sequence, and for one that is DOOMED it is no sequence
pub clear_found : (p : Plan) → Accepted p → (F : ℕ → Bool) → Clear p F → {a : ℕ ⊎ List ℕ} → Sought p F a
    → (a ≡ inl 23) ⊎ ((xs : List ℕ) × (a ≡ inr xs))
clear_found p ok F c (refused_23 y) = inl refl
clear_found p ok F c (found {xs = xs} n y) = inr (xs, refl)
clear_found p ok F c (refused_24 n y) =
    absurd (y _ ((serial_clears p _).1 (sq, clear_serial p w F (root_all_of n) _ sq c)))
  where
    w : WellFormed p
    w = accepted_well_formed p ok

    sq : Sequence p (children_from p p.tree.size 0)
    sq = rising_sequence p w (λ a b o. (ok.orders a b o).0)

pub doomed_unfound : (p : Plan) → WellFormed p → (F : ℕ → Bool) → Doomed p F → {a : ℕ ⊎ List ℕ} → Sought p F a
    → (xs : List ℕ) → a ≢ inr xs
doomed_unfound p w F d (refused_23 y) xs e = clash cc
doomed_unfound p w F d (refused_24 n y) xs e = clash cc
doomed_unfound p w F d (found {xs = ys} n y) xs e =
    let (sq, cl) = (serial_clears p ys).0 y.serial in doomed_serial p w F (root_all_of n) ys sq d cl
