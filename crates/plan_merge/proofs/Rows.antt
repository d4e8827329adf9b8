-- The rows hold: these plans are accepted (`grid_accepted`), so the answers follow from sizes, start flags and room.
-- Assumes nothing.
use mathlib.Core.Path.{◌≡◌, refl, sym, ap, ◌∙◌}
use mathlib.Core.Logic.{◌≢◌, ◌⊎◌, inl, inr, by_cases}
use mathlib.Core.Bool.{Bool, beq, true, false, not, cond, ◌||◌}
use mathlib.Core.List.{List}
use Prim.Native.Nat.{ℕ, suc, ◌+◌, ◌-◌, ◌*◌, ◌/◌, ◌%◌, ◌^◌, ◌<◌, ◌≤◌, min}
use native.Mathlib.Decide.{ℕ_discrete, dec_lt}
use native.Mathlib.Omega.{arith}
use lib.Dec.{eqb, ltb}
use lib.ListN.{length}
use borrow.Author.Tests.{ne_eqb}
use Rattle.base.specs.Answers.{refused_or}
use Rattle.base.proofs.Booleans.{beq_self}
use Rattle.runs.proofs.Searches.{none_all}
use Rattle.plan_codes.specs.Names.{name_allowed}
use Rattle.plan_codes.specs.Values.{flag_of, sign_of, place_of}
use Rattle.plan_format.specs.Format.{start_flag, flag_count}
use Rattle.plan_rules.specs.Rules.{refusal}
use Rattle.plan_rules.proofs.Rising.{Below}
use Rattle.plan_layout.specs.declared.Sizes.{Sizes}
use Rattle.plan_layout.specs.Layout.{plan_length}
use Rattle.plan_layout.specs.Fields.{Laid}
use Rattle.plan_layout.proofs.Valid.{Valid}
use Rattle.plan_layout.proofs.Sections.{laid_bytes_lem}
use Rattle.plan_layout.proofs.Accepted.{accepted}
use Rattle.plan_parts.specs.Read.{sizes_of}
use Rattle.plan_parts.specs.Joined.{joined_sizes}
use Rattle.plan_merge.specs.Model.{root_sizes, merged_sizes, refused33, refused34, pair_refusal, merge_refusal}
use Rattle.plan_merge.specs.Model.{merge_answer}
use Rattle.plan_merge.specs.Calls.{Merges}
use Rattle.plan_merge.specs.Rows.{grid_fields, grid_bytes, AllLimited, sizes_for, at_limits}

-- sizes for which there is such a plan
pub record Gridded (s : Sizes) : Type 0 where
  pub some_task : 2 ≤ s.nodes
  pub nodes : s.nodes ≤ 128
  pub conditions : s.conditions ≤ 1024
  pub tasks : s.conditions ≤ 64 * (s.nodes - 1)
  pub orders : s.orders ≤ 400
  pub pairs : (s.orders ≡ 0) ⊎ (41 ≤ s.nodes)
  pub flags : s.flags ≡ 64

module _ (x : ℕ) (s : Sizes) (g : Gridded s) where
  kind_group : (n : ℕ) → (grid_fields x s).kind n ≢ 0 → n ≡ 0
  kind_group n z = by_cases (ℕ_discrete n 0) (λ (e : n ≡ 0). e) (λ e. absurd (z (rw (ne_eqb n 0 e))))

  kind_task : (n : ℕ) → 0 < n → (grid_fields x s).kind n ≡ 0
  kind_task n l = rw (ne_eqb n 0 (λ e. omega arith))

  kind_small : (n : ℕ) → (grid_fields x s).kind n ≤ 3
  kind_small n = at (eqb n 0)
    where
      at : (b : Bool) → cond b 1 0 ≤ 3
      at true = omega arith
      at false = omega arith

  under_root : (n : ℕ) → 0 < n → (grid_fields x s).parent n ≡ 0
  under_root n l = rw (ne_eqb n 0 (λ e. omega arith))

  task_rises : (i : ℕ) → Below (1 + i / 64) (i % 64) (1 + suc i / 64) (suc i % 64)
  task_rises i = by_cases (dec_lt (i % 64) 63) (λ (l : i % 64 < 63). inr (omega arith, omega arith))
      (λ l. inl (omega arith))

  order_rises : (j : ℕ) → Below (1 + j / 20) (21 + j % 20) (1 + suc j / 20) (21 + suc j % 20)
  order_rises j = by_cases (dec_lt (j % 20) 19) (λ (l : j % 20 < 19). inr (omega arith, omega arith))
      (λ l. inl (omega arith))

  enough : (j : ℕ) → j < s.orders → 41 ≤ s.nodes
  enough j l = at g.pairs
    where
      at : (s.orders ≡ 0) ⊎ (41 ≤ s.nodes) → 41 ≤ s.nodes
      at (inl e) = absurd (omega arith)
      at (inr n) = n

  grid_valid : Valid (grid_fields x s)
  unfolding name_allowed flag_of sign_of place_of
  grid_valid = record {
    some_node = omega (arith, g.some_task);
    some_flag = omega (arith, g.flags);
    limited = record {
      nodes = g.nodes;
      conditions = g.conditions;
      orders = omega (arith, g.orders);
      flags = omega (arith, g.flags);
    };
    starts = λ k l m. absurd (omega (arith, g.flags));
    names = λ k l. refl;
    kinds = λ i l. kind_small i;
    no_minutes = λ i l z. refl;
    few_minutes = λ i l. omega arith;
    root = refl;
    parents = λ i z l. rw (under_root i z) (z, λ e. omega arith);
    children = λ n l z. (1, omega (arith, g.some_task), under_root 1 (omega arith) ∙ sym (kind_group n z));
    on_task = λ i l. (omega (arith, g.tasks, g.some_task), kind_task (1 + i / 64) (omega arith));
    values = λ i l. (omega arith, omega (arith, g.flags));
    rising = λ i l. task_rises i;
    one_sign = λ i j l m a p q. omega arith;
    inc_post = λ i l p. absurd (omega arith);
    siblings = λ j l. let n = enough j l in (
      omega arith,
      omega (arith, g.orders),
      omega arith,
      under_root (1 + j / 20) (omega arith) ∙ sym (under_root (21 + j % 20) (omega arith)),
      rw (under_root (1 + j / 20) (omega arith)),
    );
    rising_orders = λ j l. order_rises j;
  }

  grid_laid : Laid (grid_bytes x s) (grid_fields x s)
  grid_laid = laid_bytes_lem (grid_fields x s)

  grid_accepted : refusal (grid_bytes x s) ≡ 0
  grid_accepted = accepted (grid_bytes x s) (grid_fields x s) grid_laid grid_valid

  grid_sizes : sizes_of (grid_bytes x s) ≡ s
  grid_sizes = let l = grid_laid in rw (l.nodes, l.conditions, l.orders, l.flags)

  grid_start : (f : ℕ) → f < 64 → start_flag (grid_bytes x s) f ≡ eqb (x / 2 ^ (f % 8) % 2) 1
  unfolding start_flag
  grid_start f l = rw (grid_laid.start (f / 8) (omega arith))

-- ---- two of them
abbrev sizes_together : Sizes → Sizes → Sizes
sizes_together s t = joined_sizes root_sizes (joined_sizes s t)

unfoldable too_large_plan : Sizes → Bool
too_large_plan s = (ltb 128 s.nodes || ltb 1024 s.conditions) || ltb 512 s.orders

module _ (x y : ℕ) (s t : Sizes) (g : Gridded s) (h : Gridded t) where
  abbrev b : List ℕ
  b = grid_bytes x s

  abbrev c : List ℕ
  c = grid_bytes y t

  sizes_are : merged_sizes b c ≡ sizes_together s t
  sizes_are = ap (λ (z : Sizes). joined_sizes root_sizes (joined_sizes z (sizes_of c))) (grid_sizes x s g)
      ∙ ap (λ (z : Sizes). joined_sizes root_sizes (joined_sizes s z)) (grid_sizes y t h)

  large_is : refused33 b c ≡ too_large_plan (sizes_together s t)
  unfolding refused33 too_large_plan
  large_is = ap (λ (z : Sizes). (ltb 128 z.nodes || ltb 1024 z.conditions) || ltb 512 z.orders) sizes_are

  refuses_33 : too_large_plan (sizes_together s t) ≡ true → {out out' : List ℕ} {a : ℕ ⊎ ℕ} → Merges b c out a out'
      → a ≡ inl 33
  unfolding merge_answer merge_refusal pair_refusal
  refuses_33 e m = m.returns ∙ rw (grid_accepted x s g, grid_accepted y t h, large_is, e)

  starts_alike : x ≡ y → refused34 b c ≡ false
  unfolding refused34
  starts_alike e =
      none_all (min (flag_count b) (flag_count c)) (λ f. not (beq (start_flag b f) (start_flag c f))) (λ f l.
      let n : f < 64 = omega (arith, (grid_laid x s g).flags, g.flags) in
      rw (grid_start x s g f n, grid_start y t h f n, e) (beq_self (eqb (y / 2 ^ (f % 8) % 2) 1)))

  passes : x ≡ y → too_large_plan (sizes_together s t) ≡ false → {out out' : List ℕ} {a : ℕ ⊎ ℕ} → Merges b c out a out'
      → a ≡ refused_or (cond (ltb (length out) (plan_length (sizes_together s t))) 15 0)
      (plan_length (sizes_together s t))
  unfolding merge_answer merge_refusal pair_refusal
  passes q e {out} m = m.returns
      ∙ rw (grid_accepted x s g, grid_accepted y t h, large_is, e, starts_alike q)
      (ap (λ (z : Sizes). refused_or (cond (ltb (length out) (plan_length z)) 15 0) (plan_length z)) sizes_are)

-- ---- the rows
gridded : (n c k : ℕ) → 2 ≤ n → n ≤ 128 → c ≤ 1024 → c ≤ 64 * (n - 1) → k ≤ 400 → (k ≡ 0) ⊎ (41 ≤ n)
    → Gridded (sizes_for n c k)
gridded n c k a b d e f g =
    record { some_task = a; nodes = b; conditions = d; tasks = e; orders = f; pairs = g; flags = refl }

-- tasks alone; with conditions; with orders
bare : (n : ℕ) → 2 ≤ n → n ≤ 128 → Gridded (sizes_for n 0 0)
bare n l m = gridded n 0 0 l m (omega arith) (omega arith) (omega arith) (inl refl)

needing : (n c : ℕ) → 2 ≤ n → n ≤ 128 → c ≤ 1024 → c ≤ 64 * (n - 1) → Gridded (sizes_for n c 0)
needing n c l m d e = gridded n c 0 l m d e (omega arith) (inl refl)

ordered : (k : ℕ) → k ≤ 400 → Gridded (sizes_for 41 0 k)
ordered k l = gridded 41 0 k (omega arith) (omega arith) (omega arith) (omega arith) l (inr (omega arith))

of_64 : Gridded (sizes_for 64 0 0)
of_64 = bare 64 (omega arith) (omega arith)

of_512 : Gridded (sizes_for 9 512 0)
of_512 = needing 9 512 (omega arith) (omega arith) (omega arith) (omega arith)

of_256 : Gridded (sizes_for 41 0 256)
of_256 = ordered 256 (omega arith)

pub limits_hold : AllLimited at_limits
unfolding too_large_plan
limits_hold = (
  λ out out' a l m. passes 0 0 _ _ of_64 (bare 63 (omega arith) (omega arith)) refl refl m ∙ rw l,
  (
    λ out out' a l m. refuses_33 0 0 _ _ of_64 of_64 refl m,
    (
      λ out out' a l m. passes 0 0 _ _ of_512 of_512 refl refl m ∙ rw l,
      (
        λ out out' a l m. refuses_33 0 0 _ _ of_512
            (needing 10 513 (omega arith) (omega arith) (omega arith) (omega arith)) refl m,
        (
          λ out out' a l m. passes 0 0 _ _ of_256 of_256 refl refl m ∙ rw l,
          (
            λ out out' a l m. refuses_33 0 0 _ _ of_256 (ordered 257 (omega arith)) refl m,
            (λ out out' a l m. refuses_33 1 0 _ _ of_64 of_64 refl m, tt),
          ),
        ),
      ),
    ),
  ),
)
