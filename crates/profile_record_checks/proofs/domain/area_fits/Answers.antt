-- `profile_record_checks::domain::area_fits` meets its contract: an area that its kind may have is no longer than its record has room for.
use borrow.Author.Rules.{rules}
use Prim.Native.Nat.{ℕ}
use native.Mathlib.Nat.{le_refl}
use lib.Dec.{eqb}
use lib.ListN.{length, drop}
use mathlib.Core.Path.{sym, ap, ◌∙◌}
use Rattle.std.specs.List.{list_all}
use Rattle.std.proofs.lemmas.Slice.{between_to_end}
use native.Mathlib.Omega.{arith}
use Rattle.laws.proofs.AreaLengths.{fits-short}
use Rattle.wire.proofs.Zeros.{zeros}
use Rattle.profile_record_checks.proofs.domain.area_fits.Goals as goal

pub slice_bounds-all_zero-count : goal.slice_bounds-all_zero-count
slice_bounds-all_zero-count c =
    let short = fits-short c.args.kind c.args.used (sym c.area_length_fits.ensures ∙ c.if-area_length_fits.true) in
    omega arith

pub slice_bounds-all_zero-start : goal.slice_bounds-all_zero-start
slice_bounds-all_zero-start c =
    let short = fits-short c.args.kind c.args.used (sym c.area_length_fits.ensures ∙ c.if-area_length_fits.true) in
    search rules

pub returns-then-area_length_fits : goal.returns-then-area_length_fits
returns-then-area_length_fits c =
    let a = c.args in
    rw (sym c.area_length_fits.ensures ∙ c.if-area_length_fits.true)
    (c.all_zero.ensures ∙ ap (list_all (λ (x : ℕ). eqb x 0)) (between_to_end a.area.now a.used (length a.area.now) (le_refl (length a.area.now))) ∙ zeros (drop a.used a.area.now))
