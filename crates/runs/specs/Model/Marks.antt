-- The marks as tests. Definitions only.
use Rattle.std.specs.Prelude.{Bool, true, false, not, ℕ, zero, suc, eqb}
use Rattle.runs.specs.Tests.{both, implies, negate, is_none, is_some}
use Rattle.runs.specs.Searches.{either}
use Rattle.runs.specs.Plan.{Place, pre, inc, post, Plan}
use Rattle.runs.specs.Execution.{Event, start, finish, skip, pre_of, asserts}
use Rattle.runs.specs.Summary.{Mark, may_pre, must_pre, may_post, must_post, may_inc, must_inc, may_clobber}
use Rattle.runs.specs.Summary.{must_clobber}
use Rattle.runs.specs.Model.Trees.{by_kind, some_child_b, every_child_b, some_task_b, before_b, unordered_b}

-- Three notions carry the six marks of the conditions; q and m are tests of events. In each, k is more than the levels
-- under n.
module _ (p : Plan) (q : Event → Bool) where
  -- some completed execution has all its events in q
  unfoldable pub quiet_in : ℕ → ℕ → Bool
  quiet_in zero n = false
  quiet_in (suc k) n = by_kind (p.tree.kind n) (λ u. both (q (start n)) (λ u. q (finish n)))
      (λ u. every_child_b p n (λ c. quiet_in k c))
      (λ u. some_child_b p n (λ c. quiet_in k c)) (λ u. either (some_child_b p n (λ c. quiet_in k c)) (λ u. q (skip n)))

  module _ (m : Event → Bool) where
    -- some execution comes to an event in m with only q before it
    unfoldable pub meet_in : ℕ → ℕ → Bool
    meet_in zero n = false
    meet_in (suc k) n = by_kind (p.tree.kind n)
        (λ u. either (m (start n)) (λ u. both (q (start n)) (λ u. m (finish n))))
        (λ u. some_child_b p n (λ c. both (meet_in k c)
        (λ u. every_child_b p n (λ a. implies (before_b p a c) (λ u. quiet_in k a)))))
        (λ u. some_child_b p n (λ c. meet_in k c)) (λ u. either (some_child_b p n (λ c. meet_in k c)) (λ u. m (skip n)))

    -- some completed execution has an event in m with only q after it
    unfoldable pub last_in : ℕ → ℕ → Bool
    last_in zero n = false
    last_in (suc k) n = by_kind (p.tree.kind n)
        (λ u. either (m (finish n)) (λ u. both (q (finish n)) (λ u. m (start n))))
        (λ u. some_child_b p n (λ c. both (last_in k c)
        (λ u. every_child_b p n (λ a. implies (before_b p c a) (λ u. quiet_in k a)))))
        (λ u. some_child_b p n (λ c. last_in k c)) (λ u. either (some_child_b p n (λ c. last_in k c)) (λ u. m (skip n)))

module _ (p : Plan) where
  unfoldable pub quiet_b : (Event → Bool) → ℕ → Bool
  quiet_b q n = quiet_in p q p.tree.size n

  unfoldable pub meet_b : (Event → Bool) → (Event → Bool) → ℕ → Bool
  meet_b q m n = meet_in p q m p.tree.size n

  unfoldable pub last_b : (Event → Bool) → (Event → Bool) → ℕ → Bool
  last_b q m n = last_in p q m p.tree.size n

  -- the tests of events: it says nothing of the flag; it has the precondition; it begins the incondition; it asserts
  -- the literal
  unfoldable pub unasserted_b : ℕ → Event → Bool
  unasserted_b f e = is_none (asserts p e f)

  unfoldable pub pre_b : ℕ → Bool → Event → Bool
  pre_b f v e = is_some (pre_of p.conditions e f) v

  unfoldable pub asserts_b : ℕ → Bool → Event → Bool
  asserts_b f v e = is_some (asserts p e f) v

  unfoldable pub begins_inc_b : ℕ → Bool → Event → Bool
  begins_inc_b f v (start t) = is_some (p.conditions.sign inc t f) v
  begins_inc_b f v (finish t) = false
  begins_inc_b f v (skip g) = false

  -- it neither has the precondition nor asserts the flag; it asserts the flag and has not the precondition
  unfoldable pub neutral_b : ℕ → Bool → Event → Bool
  neutral_b f v e = both (negate (pre_b f v e)) (λ u. unasserted_b f e)

  unfoldable pub covers_b : ℕ → Bool → Event → Bool
  covers_b f v e = both (negate (pre_b f v e)) (λ u. negate (unasserted_b f e))

  -- some completed execution does not assert the flag
  unfoldable pub avoid_b : ℕ → ℕ → Bool
  avoid_b n f = quiet_b (unasserted_b f) n

  unfoldable pub may_pre_b : ℕ → ℕ → Bool → Bool
  may_pre_b n f v = meet_b (unasserted_b f) (pre_b f v) n

  unfoldable pub must_pre_b : ℕ → ℕ → Bool → Bool
  must_pre_b n f v = both (negate (quiet_b (neutral_b f v) n)) (λ u. negate (meet_b (neutral_b f v) (covers_b f v) n))

  unfoldable pub may_post_b : ℕ → ℕ → Bool → Bool
  may_post_b n f v = last_b (unasserted_b f) (asserts_b f v) n

  unfoldable pub must_post_b : ℕ → ℕ → Bool → Bool
  must_post_b n f v = both (negate (avoid_b n f)) (λ u. negate (may_post_b n f (not v)))

  unfoldable pub may_inc_b : ℕ → ℕ → Bool → Bool
  may_inc_b n f v = meet_b (λ e. true) (begins_inc_b f v) n

  unfoldable pub must_inc_b : ℕ → ℕ → Bool → Bool
  must_inc_b n f v = negate (quiet_b (λ e. negate (begins_inc_b f v e)) n)

  -- some task under c has the literal at one of two places
  unfoldable pub condition_b : Place → Place → ℕ → Bool → ℕ → Bool
  condition_b i j f v c = some_task_b p c
      (λ t. either (is_some (p.conditions.sign i t f) v) (λ u. is_some (p.conditions.sign j t f) v))

  -- no task under c asserts the flag
  unfoldable pub silent_b : ℕ → ℕ → Bool
  silent_b f c = negate (some_task_b p c
      (λ t. either (negate (is_none (p.conditions.sign inc t f)))
      (λ u. negate (is_none (p.conditions.sign post t f)))))

  -- each child of n that stands between d and c has a completed execution that does not assert the flag
  unfoldable pub avoided_b : ℕ → ℕ → ℕ → ℕ → Bool
  avoided_b n f c d = every_child_b p n
      (λ b. implies (before_b p d b) (λ u. implies (before_b p b c) (λ u. avoid_b b f)))

  -- the children c and d of n clobber the literal
  unfoldable pub pair_b : ℕ → ℕ → Bool → ℕ → ℕ → Bool
  pair_b n f v c d = either (both (unordered_b p c d)
      (λ u. either (both (condition_b pre inc f v c) (λ u. condition_b inc post f (not v) d))
      (λ u. both (condition_b post post f v c) (λ u. condition_b post post f (not v) d))))
      (λ u. both (before_b p d c) (λ u. both (may_post_b d f (not v))
      (λ u. both (may_pre_b c f v) (λ u. avoided_b n f c d))))

  unfoldable pub may_clobber_in : ℕ → Bool → ℕ → ℕ → Bool
  may_clobber_in f v zero n = false
  may_clobber_in f v (suc k) n = by_kind (p.tree.kind n) (λ u. false)
      (λ u. either (some_child_b p n (λ c. may_clobber_in f v k c))
      (λ u. some_child_b p n (λ c. some_child_b p n (λ d. pair_b n f v c d))))
      (λ u. some_child_b p n (λ c. may_clobber_in f v k c)) (λ u. some_child_b p n (λ c. may_clobber_in f v k c))

  unfoldable pub may_clobber_b : ℕ → ℕ → Bool → Bool
  may_clobber_b n f v = may_clobber_in f v p.tree.size n

  -- no task under a child unordered with c asserts the flag
  unfoldable pub alone_b : ℕ → ℕ → ℕ → Bool
  alone_b n f c = every_child_b p n (λ b. implies (unordered_b p b c) (λ u. silent_b f b))

  -- no task under a child other than c and d asserts the flag, unless that child stands before d or after c
  unfoldable pub undisturbed_b : ℕ → ℕ → ℕ → ℕ → Bool
  undisturbed_b n f c d = every_child_b p n (λ b. implies (negate (eqb b c)) (λ u. implies (negate (eqb b d))
      (λ u. implies (negate (before_b p b d)) (λ u. implies (negate (before_b p c b)) (λ u. silent_b f b)))))

  unfoldable pub must_clobber_in : ℕ → Bool → ℕ → ℕ → Bool
  must_clobber_in f v zero n = false
  must_clobber_in f v (suc k) n = by_kind (p.tree.kind n) (λ u. false)
      (λ u. either (some_child_b p n (λ c. both (must_clobber_in f v k c) (λ u. alone_b n f c)))
      (λ u. some_child_b p n (λ c. some_child_b p n (λ d. both (before_b p d c)
      (λ u. both (must_post_b d f (not v)) (λ u. both (must_pre_b c f v) (λ u. undisturbed_b n f c d)))))))
      (λ u. every_child_b p n (λ c. must_clobber_in f v k c)) (λ u. false)

  unfoldable pub must_clobber_b : ℕ → ℕ → Bool → Bool
  must_clobber_b n f v = must_clobber_in f v p.tree.size n

  -- the eight marks of a node, a flag and a sign
  unfoldable pub marked_b : ℕ → ℕ → Bool → Mark → Bool
  marked_b n f v may_pre = may_pre_b n f v
  marked_b n f v must_pre = must_pre_b n f v
  marked_b n f v may_post = may_post_b n f v
  marked_b n f v must_post = must_post_b n f v
  marked_b n f v may_inc = may_inc_b n f v
  marked_b n f v must_inc = must_inc_b n f v
  marked_b n f v may_clobber = may_clobber_b n f v
  marked_b n f v must_clobber = must_clobber_b n f v
