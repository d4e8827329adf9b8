-- The library's names that the proofs use, passed on under one roof.
pub use mathlib.Core.Path.{◌≡◌, refl, sym, ap, ◌∙◌, fun_ext}
pub use mathlib.Core.Logic.Iff.{symm as Iff·symm}
pub use mathlib.Core.Logic.Iff.{trans as Iff·trans}
pub use mathlib.Core.Logic.{◌≢◌, ◌⊎◌, inl, inr, ◌↔◌}
pub use mathlib.Core.Bool.{Bool, true, false, not, cond, Bool-discrete}
pub use mathlib.Core.Option.{Option, none, some, get_or as Option·getD}
pub use mathlib.Core.List.{List, [], ◌∷◌, ◌++◌, append-nil, append_assoc, reverse, reverse_aux}
pub use mathlib.Core.List.Memᴰ.{head as here}
pub use mathlib.Core.List.Memᴰ.{tail as there}
pub use mathlib.Core.List.{Memᴰ as Among}
pub use mathlib.Core.List.Memᴰ.{cases_cons as among_cases}
pub use mathlib.Core.List.Memᴰ.{not-nil as among_none}
pub use Prim.Native.Nat.{ℕ, zero, suc, ◌+◌, ◌<◌, ◌≤◌}
pub use native.Mathlib.Omega.{arith}
pub use native.Mathlib.Decide.{ℕ_discrete}
pub use lib.Dec.{T, eqb, ltb, eqb→eq, eqb_refl, ltb→lt, lt→ltb}
pub use lib.ListN.{get_or, length}
unfoldable pub use mathlib.Core.Bool.{decide}
