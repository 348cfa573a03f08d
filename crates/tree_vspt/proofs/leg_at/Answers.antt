-- `tree_vspt::leg_at` meets its contract: each field is read where the place has it (`Sequences`), the domain's record lies in the file, and its EXRS in a stretch of the
-- include list.
use mathlib.Core.Path.{◌≡◌, refl, sym, ap, subst, ◌∙◌}
use native.Mathlib.Numerals.{add-one}
use native.Mathlib.Omega.{arith}
use Prim.Native.Nat.{ℕ, suc, ◌+◌}
use lib.ListN.{get_or}
use Rattle.model.specs.Exclusion.{excluded_domain}
use Rattle.laws.specs.Exrs.{Stretch, carried_in}
use Rattle.laws.specs.Lists.{lists_of}
use Rattle.laws.specs.Stops.{named_in}
use Rattle.list_exclusion.specs.Place.{exclusions_there}
use Rattle.profile_records.specs.Layout.{layout_of}
use Rattle.tree_vspt.proofs.Sequences.{domain-inside, area-short, leg-for}
use Rattle.tree_vspt.proofs.leg_at.Goals as goal

pub domain_at-d-requires : goal.domain_at-d-requires
domain_at-d-requires c =
    let a = c.args.laid.now in
    let lists = lists_of a.include.now a.exclude.now in
    domain-inside (layout_of a.layout) a.profile.now lists a.query c.requires.0 c.args.i c.requires.1

pub first_exrs-exrs-requires : goal.first_exrs-exrs-requires
first_exrs-exrs-requires c =
    let a = c.args.laid.now in
    subst (λ (from : ℕ). Stretch a.include.now from (named_in a.query.stops c.args.i)) (sym c.stretch_start.ensures) (c.requires.0.placed c.args.i c.requires.1)

pub excludes_domain_there-excluded-requires : goal.excludes_domain_there-excluded-requires
excludes_domain_there-excluded-requires c =
    let a = c.args.laid.now in
    let lists = lists_of a.include.now a.exclude.now in (
      c.requires.0.exclude-right,
      c.first_exrs-exrs.ensures.0,
      rw c.domain_at-d.ensures (area-short (layout_of a.layout) a.profile.now lists a.query c.requires.0 c.args.i c.requires.1),
    )

pub returns : goal.returns
returns c =
    let a = c.args.laid.now in
    let lists = lists_of a.include.now a.exclude.now in
    let two-on : c.args.i + 2 ≡ suc (suc c.args.i) = omega arith in
    λ addresses tally laid.
    leg-for (layout_of a.layout) a.profile.now lists a.query c.requires.0 c.args.i c.requires.1
    addresses a.levels.now.starts a.levels.now.firsts a.levels.now.lasts tally laid _
    (record {
      from_made = refl;
      to_made = c.next_domain.ensures;
      round_made = refl;
      stretch_made = c.first_exrs-exrs.ensures.0;
      carried_made =
          c.first_exrs-exrs.ensures.1
          ∙ ap (λ (from : ℕ). carried_in a.include.now from (named_in a.query.stops c.args.i)) c.stretch_start.ensures;
      excluded_made =
          c.excludes_domain_there-excluded.ensures
          ∙ ap (excluded_domain (exclusions_there a.query.round lists _ _)) c.domain_at-d.ensures;
      pin_made = refl;
      first_made = refl;
      last_made = refl;
      start_made = refl;
      next_made = ap (λ (n : ℕ). get_or a.levels.now.starts n 0) (add-one c.args.i);
      end_made = ap (λ (n : ℕ). get_or a.levels.now.starts n 0) two-on;
    })
