-- `profile_check::crowd::EntryNodes::note` meets its contract: whether anything is noted, whether the node is, and whether there is room pick one of four ways.
use mathlib.Core.Path.{◌≡◌, refl, sym, subst, ◌∙◌}
use mathlib.Core.Bool.{false, true≢false}
use Prim.Native.Nat.{ℕ, ◌+◌}
use native.Mathlib.Omega.{arith}
use lib.Dec.{leb}
use lib.ListN.{replicate, set}
use Rattle.profile_check.proofs.Padding.{note_first, note_held, note_full, note_new, noted}
use Rattle.profile_check.proofs.crowd.EntryNodes.note.Goals as goal

pub returns-then-self-eq0 : goal.returns-then-self-eq0
returns-then-self-eq0 c =
    let a = c.args.self.now in
    let x = c.args.node.0 in
    let n = noted a.nodes a.count x (replicate 16 x) 1 (note_first a.nodes a.count x c.if-self-eq0.true) (omega arith) in
    record { value = n.0; added = λ _. (n.1, n.2); same_pair = (refl, refl) }

pub returns-then-has : goal.returns-then-has
returns-then-has c =
    let a = c.args.self.now in
    let x = c.args.node.0 in
    let p = note_held a.nodes a.count x c.if-self-eq0.false c.requires.0 c.requires.1 c.requires.2 (sym c.has.ensures ∙ c.if-has.true) in
    let n = noted a.nodes a.count x a.nodes a.count p c.requires.0 in
    record { value = n.0; added = λ _. (n.1, n.2); same_pair = (refl, refl) }

pub returns-then-self-eq16 : goal.returns-then-self-eq16
returns-then-self-eq16 c =
    let a = c.args.self.now in
    let x = c.args.node.0 in
    let p = note_full a.nodes a.count x c.if-self-eq0.false c.requires.0 c.requires.1 c.requires.2 (sym c.has.ensures ∙ c.if-has.false) c.if-self-eq16.true in
    record { value = subst (λ (k : ℕ). false ≡ leb k 16) p.0 refl; added = λ e. absurd (true≢false (sym e)); same_pair = (refl, refl) }

pub returns : goal.returns
returns c =
    let a = c.args.self.now in
    let x = c.args.node.0 in
    let p = note_new a.nodes a.count x c.if-self-eq0.false c.requires.0 c.requires.1 c.requires.2 (sym c.has.ensures ∙ c.if-has.false) c.if-self-eq16.false in
    let n = noted a.nodes a.count x (set a.nodes a.count x) (a.count + 1) p (omega arith) in
    record { value = n.0; added = λ _. (n.1, n.2); same_pair = (refl, refl) }
