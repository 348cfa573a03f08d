-- `pcep_ero::put_addresses` meets its contract. The loop's invariant: the addresses passed are written.
use mathlib.Core.Path.{◌≡◌, sym, ap, ◌∙◌}
use Prim.Native.Nat.{ℕ}
use native.Mathlib.Omega.{arith}
use native.Mathlib.Numerals.{add-one}
use mathlib.Core.List.{List}
use lib.ListN.{take, set, get_or}
use lib.Seq.{take_all}
use Rattle.model.specs.Lists.{over}
use Rattle.laws.proofs.Lists.{over_nothing, Copied-next}
use Rattle.pcep_model.specs.Pcrep.{addresses_in}
use Rattle.pcep_ero.proofs.Addresses.{eight_each, address_stands}
use Rattle.pcep_ero.proofs.put_addresses.Goals as goal

pub loop-i-init : goal.loop-i-init
loop-i-init c = sym (over_nothing c.args.out.now)

pub u32_at-requires : goal.u32_at-requires
u32_at-requires c =
    let n = c.address_count-i-end.ensures in
    omega (arith, eight_each c.args.body.now c.requires.0, c.loop-i-test.true)

pub loop-i-preserved : goal.loop-i-preserved
loop-i-preserved c =
    let a = c.args in
    let l = c.loop-i in
    let n = c.address_count-i-end.ensures in
    let addresses : List ℕ = addresses_in a.body.now in
    let here : c.u32_at.result ≡ get_or addresses l.i 0 = c.u32_at.ensures ∙ sym (address_stands a.body.now c.requires.0 l.i (omega arith)) in
    ap (λ (p : List ℕ). set p l.i c.u32_at.result) l.invariant
    ∙ ap (λ (x : ℕ). set (over (take l.i addresses) a.out.now) l.i x) here
    ∙ Copied-next addresses a.out.now l.i 0 (omega arith) (omega (arith, c.requires.2))
    ∙ ap (λ (k : ℕ). over (take k addresses) a.out.now) (sym (add-one l.i))

pub returns : goal.returns
returns c =
    let a = c.args in
    let l = c.loop-i in
    let n = c.address_count-i-end.ensures in
    l.invariant ∙ ap (λ (x : List ℕ). over x a.out.now) (take_all l.i (addresses_in a.body.now) (omega arith))
