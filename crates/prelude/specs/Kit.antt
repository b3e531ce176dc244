-- The kit's names that proofs use, passed on: a proof file imports what it needs from here.
pub use Rattle.std.specs.Prelude.{ℕ, ◌≤◌, ◌+◌, ◌<◌, ◌-◌, suc, zero, ◌*◌, ◌%◌, min, ◌^◌, ◌/◌, pred, max, true, false, Bool, cond, ◌&&◌, not, ◌||◌, ◌≡◌, refl, ◌≢◌, ◌⊎◌, List, [], ◌∷◌, ◌++◌, map, eqb, ltb, leb, T, ℤ, pos, negsuc, nat_abs, ◌-ℤ◌, ◌+ℤ◌, neg_ℤ, length, get_or, set, replicate, take, drop}
pub use Rattle.std.proofs.Common.{arith, zero-add, mul-zero, add-zero, mod-lt, mul-suc, add-suc, add-one, sub-one, true≢false, ◌∙◌, sym, ap, subst, ap₂, inl, inr, ⊎_elim, append_assoc, append-nil, map-id, length-set, length-append, length-take, length-drop, drop_of_length-le, get_or-set_other, get_or-set_same, drop-cons, ext_get_or, length-take-le, get_or-take, take_all, set-set, get_or-append-add, take-suc, take-suc-set, get_or-drop, drop-set-lt, take_at, drop-drop, take-add, lt-length-set, below_more, below_none, rules, ne_eqb, lt-ltb, eq-eqb, le-ltb, eqb-true, ltb-true, leb-true, le-leb, ltb-false, leb-false, to_z-of_z}
pub use Rattle.std.proofs.Math.Decide.{dec_lt, ℕ_discrete}
pub use Rattle.std.proofs.lemmas.Bool.{false≢true, not-true, not-false, lt-leb, eqb-false}
pub use Rattle.std.proofs.Math.Bool.{and-false, or-false, or_assoc, and-true, or-true, and_comm}
pub use Rattle.std.proofs.Math.Path.{fun_ext}
pub use Rattle.std.proofs.Math.Option.{some, none, Option}
pub use Rattle.std.proofs.lemmas.List.{map-append, length-map, length-replicate, get_or-replicate, replicate-append-replicate, set-get_or, set_at, get_or_at, set_comm, set-append_left}
pub use Rattle.std.proofs.Math.IntN.{+ℤ_idl, sub_ℕ, neg_ℤ-+ℤ, neg_ℤ-neg_ℤ, +ℤ_assoc}
pub use Rattle.std.specs.Int.Signed.{lt_z, mag, non_neg, le_z}
pub use Rattle.std.proofs.lemmas.Nat.{and_mask}
pub use Rattle.std.specs.Int.Bits.{bit_and}
pub use Rattle.std.proofs.Math.ListN.{get_or-eq_default, get_or-append, get_or-map}
pub use Rattle.std.proofs.Math.Seq.{set_out, drop-length, get_or-append_seam, append_snoc, take-set-lt, take-length, drop-nil, set-append_seam}
pub use Rattle.std.proofs.lemmas.List.Edits.{sets}
pub use borrow.Fn.Kinds.{In, Out}
pub use borrow.Fn.PlainCycle.{and, falls, is, Measures}
pub use denote.Enum.Declared.{tag_of}
pub use Rattle.std.proofs.Math.Facts.{to_z_pos}
pub use Rattle.std.specs.Int.{w64}
pub use mir.Val.{to_z, of_z, SFits, Fits, has_key}
pub use types.Run.{OneOf, miss}
