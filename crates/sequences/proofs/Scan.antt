-- The scan along a sequence is exact: the plan under the sequence is CLEAR exactly if no child of the root may clash
-- and the sequence passes.
use Rattle.runs.proofs.Base.{◌≡◌, ◌⊎◌, inl, inr, ◌↔◌, refl, Bool, not, List, [], ◌∷◌, ◌++◌, Among, here, there}
use Rattle.runs.proofs.Base.{among_none, among_cases, ℕ}
use Rattle.runs.specs.Plan.{all_of, Plan, Child, Unordered}
use Rattle.runs.specs.WellFormed.{WellFormed}
use Rattle.runs.specs.Summary.{May, ExternalPre, ExternalPost, Mark, may_pre, may_post, may_clobber, Marked}
use Rattle.runs.specs.Pairs.{ClobberByPairs, in_child, unordered_pair, opposed_pair, passed_on}
use Rattle.runs.specs.Verdict.{Clear, Doomed}
use Rattle.sequences.specs.Sequences.{Ahead, at_front, further_on, Sequence}
use Rattle.sequences.specs.Model.{serial_order, serial}
use Rattle.sequences.specs.Model.{Calm, MayBeTrue, at_start, left, stays, SafeAlong, end, step}
use Rattle.runs.proofs.Summary.ByChildren.{Avoids, may_pre_all}
use Rattle.runs.proofs.Summary.Clobber.{clobber_all}
use Rattle.runs.proofs.Verdict.Exact.{clear_not_doomed}
use Rattle.runs.proofs.Blocked.Thinner.{may_in}
use Rattle.runs.proofs.Blocked.Alike.{marks_alike}
use Rattle.sequences.proofs.Lists.{ahead_inv, ahead_left, ahead_right, ahead_either, once_tail}
use Rattle.sequences.specs.Sequences.{Once}
use Rattle.sequences.proofs.Lists.{nothing_ahead}
use Rattle.sequences.proofs.Serial.{serial_well_formed, before_ahead, serial_thinner, serial_back}
use Rattle.sequences.proofs.Serial.{serial_keeps}

module _ (p : Plan) (w : WellFormed p) (F : ℕ → Bool) where
  -- the literal may be true when c's turn comes in xs, after `seen`: what may be true then is passed on to c, or d
  -- leaves it and it is passed on from d
  data Reaches (seen xs : List ℕ) (c f : ℕ) (v : Bool) : Type 0 where
    passed : MayBeTrue p F f v seen → ((a : ℕ) → Ahead a c xs → Avoids p w f a) → Reaches seen xs c f v
    passed_from : (d : ℕ) → Ahead d c xs → May p d (ExternalPost p f v)
        → ((b : ℕ) → Ahead d b xs → Ahead b c xs → Avoids p w f b)
        → Reaches seen xs c f v

  -- one node on
  reaches_in : {x c f : ℕ} {v : Bool} {seen xs : List ℕ} → Among c xs → Reaches seen (x ∷ xs) c f v
      → Reaches (x ∷ seen) xs c f v
  reaches_in {x} i (passed m av) = passed (stays (av x (at_front i)) m) (λ a y. av a (further_on y))
  reaches_in {x} {c} {f} {v} {seen} {xs} i (passed_from d y l bt) = at (ahead_inv y)
    where
      at : ((d ≡ x) × Among c xs) ⊎ Ahead d c xs → Reaches (x ∷ seen) xs c f v
      at (inl (e, j)) = passed (left (rw e at l)) (λ a z. bt a (rw e (at_front (ahead_left z))) (further_on z))
      at (inr z) = passed_from d z l (λ b y₁ y₂. bt b (further_on y₁) (further_on y₂))

  reaches_out : {x c f : ℕ} {v : Bool} {seen xs : List ℕ} → Once (x ∷ xs) → Among c xs → Reaches (x ∷ seen) xs c f v
      → Reaches seen (x ∷ xs) c f v
  reaches_out {x} {c} {f} {v} {seen} {xs} k i (passed (left l) av) =
      passed_from x (at_front i) l (λ b y z. at b y (ahead_inv z))
    where
      at : (b : ℕ) → Ahead x b (x ∷ xs) → ((b ≡ x) × Among c xs) ⊎ Ahead b c xs → Avoids p w f b
      at b y (inl (e, j)) = absurd (k x (rw e at y))
      at b y (inr z) = av b z
  reaches_out {x} {c} {f} {v} {seen} {xs} k i (passed (stays vx m) av) = passed m (λ a z. at a (ahead_inv z))
    where
      at : (a : ℕ) → ((a ≡ x) × Among c xs) ⊎ Ahead a c xs → Avoids p w f a
      at a (inl (e, j)) = rw e vx
      at a (inr z) = av a z
  reaches_out {x} {c} {f} {v} {seen} {xs} k i (passed_from d y l bt) = passed_from d (further_on y) l between
    where
      between : (b : ℕ) → Ahead d b (x ∷ xs) → Ahead b c (x ∷ xs) → Avoids p w f b
      between b y₁ y₂ = at (ahead_inv y₁) (ahead_inv y₂)
        where
          at : ((d ≡ x) × Among b xs) ⊎ Ahead d b xs → ((b ≡ x) × Among c xs) ⊎ Ahead b c xs → Avoids p w f b
          at (inl (e, j)) z = absurd (k x (at_front (rw e at (ahead_left y))))
          at (inr z) (inl (e, j)) = absurd (k x (at_front (rw e at (ahead_right z))))
          at (inr z₁) (inr z₂) = bt b z₁ z₂

  -- no node of xs may need what may be false when its turn comes
  abbrev Unharmed : List ℕ → List ℕ → Type 0
  Unharmed seen xs = (c f : ℕ) (v : Bool) → Among c xs → May p c (ExternalPre p f v) → ¬ Reaches seen xs c f (not v)

  passes_unharmed : {seen xs : List ℕ} → Once xs → SafeAlong p F seen xs → Unharmed seen xs
  passes_unharmed k end c f v i m r = among_none i
  passes_unharmed {seen} k (step {c = x} {xs = xs} s ps) c f v i m r =
      at (among_cases i) r (λ j z. passes_unharmed (once_tail k) ps c f v j m z)
    where
      now : c ≡ x → Reaches seen (x ∷ xs) c f (not v) → ⊥
      now e (passed t av) = s f v (rw e at m) t
      now e (passed_from d y l bt) = nothing_ahead k (rw e at y)

      at : (c ≡ x) ⊎ Among c xs → Reaches seen (x ∷ xs) c f (not v)
          → (Among c xs → Reaches (x ∷ seen) xs c f (not v) → ⊥) → ⊥
      at (inl e) z ih = now e z
      at (inr j) z ih = ih j (reaches_in j z)

  unharmed_passes : {seen : List ℕ} (xs : List ℕ) → Once xs → Unharmed seen xs → SafeAlong p F seen xs
  unharmed_passes [] k u = end
  unharmed_passes (x ∷ xs) k u = step (λ f v m t. u x f v (here refl) m (passed t (λ a y. absurd (nothing_ahead k y))))
      (unharmed_passes xs (once_tail k) (λ c f v i m r. u c f v (there i) m (reaches_out k i r)))

  -- what fails early fails whatever follows
  pub passes_prefix : {seen : List ℕ} (ys zs : List ℕ) → SafeAlong p F seen (ys ++ zs) → SafeAlong p F seen ys
  passes_prefix [] zs ps = end
  passes_prefix (y ∷ ys) zs (step s ps) = step s (passes_prefix ys zs ps)

  module _ (kr : p.tree.kind 0 ≡ all_of) (xs : List ℕ) (sq : Sequence p xs) where
    abbrev q : Plan
    q = serial p xs

    wq : WellFormed q
    wq = serial_well_formed p w kr xs sq

    -- the children have the marks that they had
    marks : {c : ℕ} → Child p 0 c → (f : ℕ) (v : Bool) (m : Mark) → Marked p c f v m ↔ Marked q c f v m
    marks {c} hc = marks_alike p w p.tree (serial_order p xs) wq (serial_thinner p w kr xs sq hc.node)
        (serial_back p w kr xs sq hc.not_root hc.node)

    avoids_in : {c : ℕ} (f : ℕ) → Child p 0 c → Avoids p w f c → Avoids q wq f c
    avoids_in {c} f hc m = may_in q wq p.tree p.order w (serial_back p w kr xs sq hc.not_root hc.node) m

    avoids_out : {c : ℕ} (f : ℕ) → Child p 0 c → Avoids q wq f c → Avoids p w f c
    avoids_out {c} f hc m = may_in p w p.tree (serial_order p xs) wq (serial_thinner p w kr xs sq hc.node) m

    serial_clear_to : Clear q F → Calm p × SafeAlong p F [] xs
    serial_clear_to cl = (
      λ c hc f v x. cl.no_clobber f v ((clobber_all q wq kr f v).1 (in_child c hc ((marks hc f v may_clobber).0 x))),
      unharmed_passes xs sq.once (λ c f v i m r. at c f v (sq.child c i) m r),
    )
      where
        at : (c f : ℕ) (v : Bool) → Child p 0 c → May p c (ExternalPre p f v) → Reaches [] xs c f (not v) → ⊥
        at c f v hc m (passed (at_start e) av) = cl.no_pre f v e ((may_pre_all q wq f v wq.root_node kr).1 (
          c,
          hc,
          (marks hc f v may_pre).0 m,
          λ a y. let z = (before_ahead p w kr xs sq hc).0 y in avoids_in f
              (sq.child a (ahead_left z)) (av a z),
        ))
        at c f v hc m (passed_from d y l bt) = cl.no_clobber f v ((clobber_all q wq kr f v).1
            (passed_on c d hc (sq.child d (ahead_left y)) ((before_ahead p w kr xs sq hc).1 y)
            ((marks (sq.child d (ahead_left y)) f (not v) may_post).0 l)
            ((marks hc f v may_pre).0 m)
            (λ b hb y₁ y₂. avoids_in f hb
            (bt b ((before_ahead p w kr xs sq hb).0 y₁) ((before_ahead p w kr xs sq hc).0 y₂)))))

    serial_clear_from : Calm p → SafeAlong p F [] xs → Clear q F
    serial_clear_from calm ps = record {
      no_clobber = λ f v x. clobbers f v ((clobber_all q wq kr f v).0 x);
      no_pre = λ f v e x. let (c, hc, m, av) = (may_pre_all q wq f v wq.root_node kr).0 x in
          unharmed c f v (sq.every c hc) ((marks hc f v may_pre).1 m)
          (passed (at_start e)
          (λ a y. avoids_out f (sq.child a (ahead_left y)) (av a ((before_ahead p w kr xs sq hc).1 y))));
    }
      where
        unharmed : Unharmed [] xs
        unharmed = passes_unharmed sq.once ps

        -- no two children are unordered
        none_unordered : {c d : ℕ} → Child p 0 c → Child p 0 d → ¬ Unordered q c d
        none_unordered {c} {d} hc hd un = at (ahead_either xs (sq.every c hc) (sq.every d hd))
          where
            at : (c ≡ d) ⊎ (Ahead c d xs ⊎ Ahead d c xs) → ⊥
            at (inl e) = un.distinct e
            at (inr (inl y)) = un.not_before ((before_ahead p w kr xs sq hd).1 y)
            at (inr (inr y)) = un.not_after ((before_ahead p w kr xs sq hc).1 y)

        clobbers : (f : ℕ) (v : Bool) → ClobberByPairs q f v 0 → ⊥
        clobbers f v (in_child c hc x) = calm c hc f v ((marks hc f v may_clobber).1 x)
        clobbers f v (unordered_pair c d hc hd un tc td) = none_unordered hc hd un
        clobbers f v (opposed_pair c d hc hd un tc td) = none_unordered hc hd un
        clobbers f v (passed_on c d hc hd y l m bt) = unharmed c f v (sq.every c hc) ((marks hc f v may_pre).1 m)
            (passed_from d ((before_ahead p w kr xs sq hc).0 y) ((marks hd f (not v) may_post).1 l)
            (λ b y₁ y₂. let hb : Child p 0 b = sq.child b (ahead_right y₁) in
            avoids_out f hb (bt b hb ((before_ahead p w kr xs sq hb).1 y₁) ((before_ahead p w kr xs sq hc).1 y₂))))

    -- a plan that is CLEAR is so under each sequence, one that is DOOMED under none
    pub clear_serial : Clear p F → Clear q F
    clear_serial = (serial_keeps p w kr xs sq).clear F

    pub doomed_serial : Doomed p F → ¬ Clear q F
    doomed_serial d c = clear_not_doomed q wq F c ((serial_keeps p w kr xs sq).doomed F d)

    -- the scan theorem
    pub serial_clear : Clear q F ↔ (Calm p × SafeAlong p F [] xs)
    serial_clear = (serial_clear_to, λ x. serial_clear_from x.0 x.1)
