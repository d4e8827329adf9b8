-- Several finishes in one step (02): they move on the listed tasks and make their leavings true, nothing else, and
-- their order is immaterial; after an execution in which the listed tasks run, their finishes one by one are an
-- execution.
use Rattle.runs.proofs.Base.{◌≡◌, refl, sym, ap, ◌∙◌, fun_ext, ◌≢◌, ◌⊎◌, inl, inr, ◌↔◌, Bool, true, false, not}
use Rattle.runs.proofs.Base.{Bool-discrete, Option, none, some, List, [], ◌∷◌, ◌++◌, Among, here, there}
use Rattle.runs.proofs.Base.{among_none, among_cases, ℕ, ℕ_discrete}
use Rattle.runs.specs.Plan.{inc, post, Plan}
use Rattle.runs.specs.WellFormed.{WellFormed}
use Rattle.runs.specs.Execution.{Status, waiting, running, done, State, Event, finish, History, moved}
use Rattle.runs.specs.Execution.{status_after, Enabled, can_finish, Execution, one_more, pre_of, Earlier}
use Rattle.runs.specs.Calls.{together, finishes, SomeOf, Rising, empty, single, rising, World, fresh, happen_all}
use Rattle.runs.specs.Calls.{inc_broken, IncBroken, PostOpposed, Applies}
use Rattle.runs.proofs.Reflect.{clash, not_not, decided, force, r_negate, r_none}
use Rattle.runs.proofs.Execution.{moved_same, moved_other, after_other, earlier_inv}
use Rattle.runs.proofs.Calls.Reflect.{r_post_opposed}
use Rattle.runs.proofs.Calls.Listed.{r_some_of, dec_among, rising_once}

agree : (b c : Bool) → b ≢ not c → b ≡ c
agree true true n = refl
agree true false n = absurd (n refl)
agree false true n = absurd (n refl)
agree false false n = refl

differ : (b : Bool) → b ≢ not b
differ true q = clash cc
differ false q = clash cc

module _ (p : Plan) (a : World) where
  -- the states after the step
  abbrev Finished : List ℕ → World
  Finished ts = happen_all p a (finishes ts)

  -- the listed tasks are done, the others as they were
  pub finished : (ts : List ℕ) (x : ℕ) → Among x ts → (Finished ts).status x ≡ done
  finished [] x i = absurd (among_none i)
  finished (t ∷ ts) x i = go (ℕ_discrete x t) (among_cases i) (λ j. finished ts x j)
    where
      s : State
      s = (Finished ts).status

      go : Dec (x ≡ t) → (x ≡ t) ⊎ Among x ts → (Among x ts → s x ≡ done) → moved s (finish t) x ≡ done
      go (yes q) j ih = rw q (moved_same s (finish t))
      go (no k) (inl q) ih = absurd (k q)
      go (no k) (inr j) ih = moved_other s (finish t) x k ∙ ih j

  pub others_stay : (ts : List ℕ) (x : ℕ) → ¬ Among x ts → (Finished ts).status x ≡ a.status x
  others_stay [] x k = refl
  others_stay (t ∷ ts) x k = moved_other (Finished ts).status (finish t) x (λ q. k (here q)) ∙ others_stay ts x
      (λ i. k (there i))

  -- what does not wait does not wait afterwards
  pub begun_stays : (ts : List ℕ) (x : ℕ) → a.status x ≢ waiting → (Finished ts).status x ≢ waiting
  begun_stays ts x n q = go (dec_among x ts)
    where
      go : Dec (Among x ts) → ⊥
      go (yes i) = let e = sym (finished ts x i) ∙ q in clash cc
      go (no k) = n (sym (others_stay ts x k) ∙ q)

  -- 22 applies to them exactly if one of them breaks a hold of a running task that is not listed
  pub broken_unlisted : (ts : List ℕ)
      → Applies p p a (together ts) inc_broken ↔ SomeOf ts (λ t. (b : IncBroken p a.status (finish t))
      × (¬ Among b.who ts))
  broken_unlisted ts = (λ (t, i, b). (t, i, to t b), λ (t, i, b). (t, i, from t b.0 b.1))
    where
      not_both : {s : Status} → s ≡ done → s ≡ running → ⊥
      not_both q z = clash cc

      to : (t : ℕ) → IncBroken p (Finished ts).status (finish t) → (b : IncBroken p a.status (finish t))
          × (¬ Among b.who ts)
      to t b = let k : ¬ Among b.who ts = λ i. not_both (finished ts b.who i) b.runs in (
        record {
          who = b.who;
          on = b.on;
          sign = b.sign;
          another = b.another;
          runs = sym (others_stay ts b.who k) ∙ b.runs;
          holds = b.holds;
          breaks = b.breaks;
        },
        k,
      )

      from : (t : ℕ) (b : IncBroken p a.status (finish t)) → ¬ Among b.who ts
          → IncBroken p (Finished ts).status (finish t)
      from t b k = record {
        who = b.who;
        on = b.on;
        sign = b.sign;
        another = b.another;
        runs = others_stay ts b.who k ∙ b.runs;
        holds = b.holds;
        breaks = b.breaks;
      }

  opposed_more : {ts us : List ℕ} → ((x : ℕ) → Among x ts → Among x us) → PostOpposed p ts → PostOpposed p us
  opposed_more e x = record {
    who = x.who;
    other = x.other;
    listed = e x.who x.listed;
    other_listed = e x.other x.other_listed;
    on = x.on;
    sign = x.sign;
    leaves = x.leaves;
    opposes = x.opposes;
  }

  module _ (f : ℕ) where
    -- unless 26 applies, each leaving is true afterwards; a flag on which no listed task has a leaving is as it was
    pub leaving_true : (ts : List ℕ) → ¬ PostOpposed p ts → (v : Bool) (t : ℕ) → Among t ts
        → p.conditions.sign post t f ≡ some v → (Finished ts).flag f ≡ v
    leaving_true [] k v t i lv = absurd (among_none i)
    leaving_true (x ∷ ts) k v t i lv = go (p.conditions.sign post x f) refl (among_cases i)
        (λ j. leaving_true ts (λ o. k (opposed_more (λ y. there) o)) v t j lv)
      where
        go : (o : Option Bool) → p.conditions.sign post x f ≡ o → (t ≡ x) ⊎ Among t ts
            → (Among t ts → (Finished ts).flag f ≡ v) → (Finished (x ∷ ts)).flag f ≡ v
        go none q (inl e) ih = clash cc
        go none q (inr j) ih = rw q (ih j)
        go (some b) q j ih = rw q (agree b v (λ e. k (record {
          who = t;
          other = x;
          listed = i;
          other_listed = here refl;
          on = f;
          sign = v;
          leaves = lv;
          opposes = q ∙ ap some e;
        })))

    pub flag_stays : (ts : List ℕ) → ((t : ℕ) → Among t ts → p.conditions.sign post t f ≡ none)
        → (Finished ts).flag f ≡ a.flag f
    flag_stays [] k = refl
    flag_stays (t ∷ ts) k = rw (k t (here refl)) (flag_stays ts (λ x i. k x (there i)))

  -- finishes take no place in the order of starts
  pub starts_stay : (ts : List ℕ) → (Finished ts).starts ≡ a.starts
  starts_stay [] = refl
  starts_stay (t ∷ ts) = starts_stay ts

  pub ordinals_stay : (ts : List ℕ) (x : ℕ) → (Finished ts).ordinal x ≡ a.ordinal x
  ordinals_stay [] x = refl
  ordinals_stay (t ∷ ts) x = ordinals_stay ts x

  -- some listed task has a leaving on the flag, or none has
  abbrev LeftOrNone : ℕ → List ℕ → Type 0
  LeftOrNone f ts = SomeOf ts (λ t. (v : Bool) × (p.conditions.sign post t f ≡ some v))
      ⊎ ((t : ℕ) → Among t ts → p.conditions.sign post t f ≡ none)

  left_or_none : (f : ℕ) (ts : List ℕ) → LeftOrNone f ts
  left_or_none f ts = go (decided (r_some_of (λ t. p.conditions.sign post t f ≢ none) ts _
      (λ t. r_negate _ (r_none _))))
    where
      left : (t : ℕ) → Among t ts → (o : Option Bool) → p.conditions.sign post t f ≡ o → o ≢ none
          → SomeOf ts (λ t. (v : Bool) × (p.conditions.sign post t f ≡ some v))
      left t i none q n = absurd (n refl)
      left t i (some v) q n = (t, i, (v, q))

      go : Dec (SomeOf ts (λ t. p.conditions.sign post t f ≢ none)) → LeftOrNone f ts
      go (yes (t, i, n)) = inl (left t i (p.conditions.sign post t f) refl n)
      go (no n) = inr (λ t i. force (decided (r_none _)) (λ m. n (t, i, m)))

  -- so, unless 26 applies, lists of the same numbers come to the same: the order of the finishes is immaterial
  pub any_order : (ts us : List ℕ) → ((x : ℕ) → Among x ts ↔ Among x us) → ¬ PostOpposed p ts
      → Finished ts ≡ Finished us
  any_order ts us e k = λ i. record {
    status = fun_ext (λ x. status x (dec_among x ts)) i;
    flag = fun_ext (λ f. flag f (left_or_none f ts)) i;
    starts = (starts_stay ts ∙ sym (starts_stay us)) i;
    ordinal = fun_ext (λ x. ordinals_stay ts x ∙ sym (ordinals_stay us x)) i;
  }
    where
      status : (x : ℕ) → Dec (Among x ts) → (Finished ts).status x ≡ (Finished us).status x
      status x (yes i) = finished ts x i ∙ sym (finished us x ((e x).0 i))
      status x (no n) = others_stay ts x n ∙ sym (others_stay us x (λ i. n ((e x).1 i)))

      flag : (f : ℕ) → LeftOrNone f ts → (Finished ts).flag f ≡ (Finished us).flag f
      flag f (inl (t, i, (v, q))) = leaving_true f ts k v t i q
          ∙ sym (leaving_true f us (λ o. k (opposed_more (λ x. (e x).1) o)) v t ((e t).0 i) q)
      flag f (inr n) = flag_stays f ts n ∙ sym (flag_stays f us (λ t i. n t ((e t).1 i)))

-- ---- 26 and 22 by the flags after the step

-- a listed task has a leaving that is not true then
pub record Unkept (p : Plan) (a : World) (ts : List ℕ) : Type 0 where
  pub who : ℕ
  pub on : ℕ
  pub sign : Bool
  pub listed : Among who ts
  pub leaves : p.conditions.sign post who on ≡ some sign
  pub turned : (happen_all p a (finishes ts)).flag on ≡ not sign

-- a task that runs and is not listed has a hold, and flags that were all as it says are not so then
pub record Turned (p : Plan) (a : World) (ts : List ℕ) : Type 0 where
  pub who : ℕ
  pub on : ℕ
  pub sign : Bool
  pub unlisted : ¬ Among who ts
  pub runs : a.status who ≡ running
  pub holds : p.conditions.sign inc who on ≡ some sign
  pub turned : (happen_all p (fresh (λ f. sign)) (finishes ts)).flag on ≡ not sign

module _ (p : Plan) (w : WellFormed p) (a : World) (ts : List ℕ) where
  pub opposed_unkept : PostOpposed p ts ↔ Unkept p a ts
  opposed_unkept = (
    λ x. to x ((happen_all p a (finishes ts)).flag x.on) refl,
    λ x. from x (decided (r_post_opposed p w ts)),
  )
    where
      to : (x : PostOpposed p ts) (v : Bool) → (happen_all p a (finishes ts)).flag x.on ≡ v → Unkept p a ts
      to x v q = go (Bool-discrete v (not x.sign))
        where
          go : Dec (v ≡ not x.sign) → Unkept p a ts
          go (yes e) = record {
            who = x.who;
            on = x.on;
            sign = x.sign;
            listed = x.listed;
            leaves = x.leaves;
            turned = q ∙ e;
          }
          go (no n) = record {
            who = x.other;
            on = x.on;
            sign = not x.sign;
            listed = x.other_listed;
            leaves = x.opposes;
            turned = q ∙ agree v x.sign n ∙ sym (not_not x.sign);
          }

      from : (x : Unkept p a ts) → Dec (PostOpposed p ts) → PostOpposed p ts
      from x (yes o) = o
      from x (no n) = absurd
          (differ x.sign (sym (leaving_true p a x.on ts n x.sign x.who x.listed x.leaves)
          ∙ x.turned))

  pub broken_turned : ¬ PostOpposed p ts → Applies p p a (together ts) inc_broken ↔ Turned p a ts
  broken_turned k = (λ x. to ((broken_unlisted p a ts).0 x), λ x. (broken_unlisted p a ts).1 (from x))
    where
      to : SomeOf ts (λ t. (b : IncBroken p a.status (finish t)) × (¬ Among b.who ts)) → Turned p a ts
      to (t, i, (b, n)) = record {
        who = b.who;
        on = b.on;
        sign = b.sign;
        unlisted = n;
        runs = b.runs;
        holds = b.holds;
        turned = leaving_true p (fresh (λ f. b.sign)) b.on ts k (not b.sign) t i b.breaks;
      }

      from : Turned p a ts → SomeOf ts (λ t. (b : IncBroken p a.status (finish t)) × (¬ Among b.who ts))
      from x = go (left_or_none p a x.on ts)
        where
          flags : World
          flags = fresh (λ f. x.sign)

          go : LeftOrNone p a x.on ts
              → SomeOf ts (λ t. (b : IncBroken p a.status (finish t)) × (¬ Among b.who ts))
          go (inr n) = absurd (differ x.sign (sym (flag_stays p flags x.on ts n) ∙ x.turned))
          go (inl (t, i, (v, q))) = (
            t,
            i,
            (
              record {
                who = x.who;
                on = x.on;
                sign = x.sign;
                another = λ e. x.unlisted (rw e at i);
                runs = x.runs;
                holds = x.holds;
                breaks = q ∙ ap some (sym (leaving_true p flags x.on ts k v t i q) ∙ x.turned);
              },
              x.unlisted,
            ),
          )

-- the states after a history
after_finishes : (ts : List ℕ) (h : History) (x : ℕ) → ¬ Among x ts
    → status_after (finishes ts ++ h) x ≡ status_after h x
after_finishes [] h x k = refl
after_finishes (t ∷ ts) h x k = after_other (finish t) (finishes ts ++ h) x (λ q. k (here q)) ∙ after_finishes ts h x
    (λ i. k (there i))

module _ (p : Plan) where
  -- the finishes of tasks that run, one by one
  pub finishes_execution : {n : ℕ} {h : History} {ts : List ℕ} → Rising ts → Execution p n h
      → ((t : ℕ) → Among t ts → Enabled p n (status_after h) (finish t)) → Execution p n (finishes ts ++ h)
  finishes_execution empty f m = f
  finishes_execution (single {t = t}) f m = one_more f (m t (here refl))
  finishes_execution {n} {h} (rising {t = t} {u = u} {ts = ts} l r) f m = one_more
      (finishes_execution r f (λ x i. m x (there i)))
      (later (m t (here refl)) (after_finishes (u ∷ ts) h t (rising_once (rising l r))))
    where
      later : {s : State} → Enabled p n (status_after h) (finish t) → s t ≡ status_after h t → Enabled p n s (finish t)
      later (can_finish m) q = can_finish record { is_task = m.is_task; beneath = m.beneath; runs = q ∙ m.runs }

  -- a finish has no precondition, so an event that has one came before them
  pub before_finishes : {e : Event} {r : History} (ts : List ℕ) (h : History) (f : ℕ) (v : Bool)
      → pre_of p.conditions e f ≡ some v → Earlier (e ∷ r) (finishes ts ++ h) → Earlier (e ∷ r) h
  before_finishes [] h f v nd q = q
  before_finishes {e} {r} (t ∷ ts) h f v nd q = go (earlier_inv q) (λ z. before_finishes ts h f v nd z)
    where
      go : (e ∷ r ≡ finish t ∷ (finishes ts ++ h)) ⊎ Earlier (e ∷ r) (finishes ts ++ h)
          → (Earlier (e ∷ r) (finishes ts ++ h) → Earlier (e ∷ r) h) → Earlier (e ∷ r) h
      go (inl z) ih = let s : e ≡ finish t = cc in let y : pre_of p.conditions (finish t) f ≡ some v = rw s at nd in
          clash cc
      go (inr z) ih = ih z
