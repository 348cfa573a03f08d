-- `list_reader::exrs::copy_exrs` meets its contract. The loop's invariant: the EXRS of the domains passed are put, and how many bytes each has.
use Prim.Native.Nat.{ℕ, ◌-◌}
use mathlib.Core.Path.{◌≡◌, refl, sym, ap, subst, ◌∙◌}
use mathlib.Core.List.{List}
use native.Mathlib.Omega.{arith}
use borrow.Author.Rules.{rules}
use lib.ListN.{length}
use Rattle.model.specs.Lists.{over}
use Rattle.laws.specs.Exrs.{exrs_in, Stretch}
use Rattle.laws.specs.Stops.{named_in}
use Rattle.laws.proofs.ExrsSizes.{exrs-few}
use Rattle.buffers.specs.Placed.{Put}
use Rattle.buffers.proofs.Places.{put_append}
use Rattle.buffers.proofs.Copies.{copied_none}
use Rattle.list_reader.proofs.SequenceCopies.{size, part, part-more, part-whole, all_passed, start_next, stretch-there, passed_next, size_fits, none_put, put_over}
use Rattle.list_reader.proofs.exrs.copy_exrs.Goals as goal
use Rattle.list_reader.proofs.exrs.copy_exrs.Goals.{In-loop-i}

pub loop-i-init : goal.loop-i-init
loop-i-init c =
    let a = c.args in
    (refl, none_put a.list.now a.st a.exrs.now, refl, copied_none (part a.list.now a.st size) a.counts.now)

-- the stretch at hand
there : (c : In-loop-i) → Stretch c.args.list.now c.loop-i.from (named_in c.args.st.stops c.loop-i.i)
there c =
    let l = c.loop-i in
    stretch-there c.args.list.now c.args.st l.i c.loop-i-test.true l.from l.invariant.0 c.requires.sound_state.1

pub put_exrs-next-requires : goal.put_exrs-next-requires
put_exrs-next-requires c =
    let a = c.args in
    let l = c.loop-i in
    (there (goal.at.put_exrs-next-requires c).In-loop-i, omega (arith, size_fits a.list.now a.st l.i c.loop-i-test.true l.from l.invariant.0, c.requires.count_in_bounds.1, l.invariant.1.next, l.invariant.2))

-- a stretch has no more bytes of EXRS than the list has bytes
pub overflow_cast-counts : goal.overflow_cast-counts
overflow_cast-counts c =
    let s = there (goal.at.overflow_cast-counts c).In-loop-i in
    omega (arith, c.put_exrs-next.ensures.next, exrs-few c.args.list.now c.loop-i.from _ s, s.inside, c.requires.sound_state.2)

pub loop-i-preserved : goal.loop-i-preserved
loop-i-preserved c =
    let put = c.put_exrs-next in
    let a = c.args in
    let l = c.loop-i in
    let s = a.list.now in
    let test = c.loop-i-test.true in
    let to = named_in a.st.stops l.i in
    let more = passed_next s a.st l.i test l.from l.invariant.0 in
    let count : put.result - l.at ≡ length (exrs_in s l.from to) = omega (arith, put.ensures.next) in (
      start_next s a.st l.i,
      subst (λ (b : List ℕ). Put 0 b a.exrs.now put.new.out put.result) (sym more) (put_append (omega arith) l.invariant.1 put.ensures),
      search rules,
      part-more s a.st size a.counts.now l.counts l.i l.invariant.3 c.requires.count_in_bounds.0 _ test refl (count ∙ ap (λ (n : ℕ). length (exrs_in s n to)) l.invariant.0),
    )

pub returns : goal.returns
returns c =
    let a = c.args in
    let l = c.loop-i in
    let end : l.i ≡ a.st.count = omega (arith, c.loop-i-test.false) in
    record {
      in_counts = part-whole a.list.now a.st size a.counts.now l.counts l.i l.invariant.3 c.requires.count_in_bounds.0 end;
      in_exrs = put_over l.invariant.1 ∙ ap (λ (b : List ℕ). over b a.exrs.now) (all_passed a.list.now a.st l.i end);
    }
