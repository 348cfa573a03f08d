-- `pcep_request_reader::fields::fields_of` meets its contract: each field is read off an object that stands whole in the message.
use Prim.Native.Nat.{ℕ}
use mathlib.Core.Path.{◌≡◌, refl, sym, ap, ◌∙◌}
use native.Mathlib.Omega.{arith}
use Rattle.std.specs.Prelude.{Option}
use Rattle.std.specs.Option.{is_some}
use Rattle.pcep_model.specs.Objects.{RP, END-POINTS, BANDWIDTH, IRO, XRO, first_object}
use Rattle.pcep_message.specs.Extents.{bits_in, extent_in}
use Rattle.pcep_message.proofs.Placed.{bits_placed, extent_placed}
use Rattle.pcep_request_reader.proofs.Standing.{there, rp, ends, some-same}
use Rattle.pcep_request_reader.proofs.fields.fields_of.Goals as goal
use Rattle.pcep_request_reader.proofs.fields.fields_of.Goals.{After-unwrap, After-unwrap-ends}

-- the RP and the END-POINTS gone by are the definition's
rp-is : (c : After-unwrap) → c.unwrap.result ≡ first_object RP c.args.message.now
rp-is c = let a = c.args in some-same c.unwrap.result _ (sym c.unwrap.ensures ∙ rp a.message.now a.firsts a.metrics c.requires)

ends-is : (c : After-unwrap-ends) → c.unwrap-ends.result ≡ first_object END-POINTS c.args.message.now
ends-is c = let a = c.args in some-same c.unwrap-ends.result _ (sym c.unwrap-ends.ensures ∙ ends a.message.now a.firsts a.metrics c.requires)

pub unwrap-requires : goal.unwrap-requires
unwrap-requires c = let a = c.args in ap is_some (rp a.message.now a.firsts a.metrics c.requires)

pub rp_at-rp-requires : goal.rp_at-rp-requires
rp_at-rp-requires c = let a = c.args in let o = there a.message.now a.firsts a.metrics c.requires RP (omega arith) c.unwrap.result c.unwrap.ensures in (c.requires.short, omega (arith, o.long, o.inside))

pub unwrap-ends-requires : goal.unwrap-ends-requires
unwrap-ends-requires c = let a = c.args in ap is_some (ends a.message.now a.firsts a.metrics c.requires)

pub extent_of-include-requires : goal.extent_of-include-requires
extent_of-include-requires c = let a = c.args in (c.requires.short, omega arith, there a.message.now a.firsts a.metrics c.requires IRO (omega arith))

pub extent_of-exclude-requires : goal.extent_of-exclude-requires
extent_of-exclude-requires c = let a = c.args in (c.requires.short, omega arith, there a.message.now a.firsts a.metrics c.requires XRO (omega arith))

pub u32_at-requires : goal.u32_at-requires
u32_at-requires c = let a = c.args in let o = there a.message.now a.firsts a.metrics c.requires END-POINTS (omega arith) c.unwrap-ends.result c.unwrap-ends.ensures in omega (arith, o.long, o.inside)

pub u32_at-requires-2 : goal.u32_at-requires-2
u32_at-requires-2 c = let a = c.args in let o = there a.message.now a.firsts a.metrics c.requires END-POINTS (omega arith) c.unwrap-ends.result c.unwrap-ends.ensures in omega (arith, o.long, o.inside)

pub bits_at-requires : goal.bits_at-requires
bits_at-requires c = let a = c.args in (c.requires.short, λ x e. let o = there a.message.now a.firsts a.metrics c.requires BANDWIDTH (omega arith) x e in omega (arith, o.long, o.inside))

pub returns : goal.returns
returns c =
    let s = c.args.message.now in
    let is = c.requires.firsts_are in
    let include = c.extent_of-include.ensures in
    let exclude = c.extent_of-exclude.ensures in
    let request = c.rp_at-rp.ensures in
    let bandwidth = c.bits_at.ensures ∙ ap (λ (o : Option ℕ). bits_in s o 4) (is BANDWIDTH (omega arith)) ∙ bits_placed s (first_object BANDWIDTH s) 4 in
    let iro = include.is ∙ ap (λ (o : Option ℕ). extent_in s o 4) (is IRO (omega arith)) ∙ extent_placed s (first_object IRO s) 4 in
    let xro = exclude.is ∙ ap (λ (o : Option ℕ). extent_in s o 8) (is XRO (omega arith)) ∙ extent_placed s (first_object XRO s) 8 in
    record {
      are =
          rw (request.0, request.1, c.u32_at.ensures, c.u32_at-2.ensures, bandwidth, c.requires.counted, iro, xro, rp-is (goal.at.returns c).After-unwrap, ends-is (goal.at.returns c).After-unwrap-ends)
          refl;
      include-inside = include.inside;
      exclude-inside = exclude.inside;
    }
