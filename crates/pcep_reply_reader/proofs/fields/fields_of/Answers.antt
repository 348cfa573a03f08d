-- `pcep_reply_reader::fields::fields_of` meets its contract: each field is read off an object that stands whole in the message.
use Prim.Native.Nat.{ℕ}
use mathlib.Core.Path.{◌≡◌, refl, ap, ap₂, ◌∙◌}
use native.Mathlib.Omega.{arith}
use Rattle.std.specs.Option.{is_some}
use Rattle.pcep_model.specs.Objects.{RP, NO-PATH, ERO, first_object}
use Rattle.pcep_model.specs.declared.MessageKind.TheVariants.{Pcrep}
use Rattle.pcep_laws.specs.Firsts.{placed}
use Rattle.pcep_laws.specs.Left.{Stands}
use Rattle.pcep_laws.proofs.Firsts.{some-placed, none-placed, placed_some, for_placed}
use Rattle.pcep_laws.proofs.Found.{object_stands}
use Rattle.pcep_laws.proofs.Message.{has_rp}
use Rattle.pcep_reply_reader.specs.CheckedPcrep.{route_at, nature_by, c_by}
use Rattle.pcep_reply_reader.proofs.Route.{route, route_placed, no_path_there, no_path_stands, found-is, nature-is, c-is}
use Rattle.pcep_reply_reader.proofs.fields.fields_of.Goals as goal
use Rattle.pcep_reply_reader.proofs.fields.fields_of.Goals.{After-route_at-route, After-unwrap}

-- the RP stands, and the place gone by is the definition's
rp-is : (c : After-unwrap) → c.unwrap.result ≡ first_object RP c.args.message.now
rp-is c = (some-placed c.args.firsts.rp (first_object RP c.args.message.now) (c.requires.firsts_are RP (omega arith)) c.unwrap.result c.unwrap.ensures).0

route-is : (c : After-route_at-route) → c.route_at-route.result ≡ placed (route c.args.message.now)
route-is c =
    let s = c.args.message.now in
    let p = c.requires in
    c.route_at-route.ensures ∙ ap₂ route_at (p.firsts_are ERO (omega arith)) (p.firsts_are NO-PATH (omega arith)) ∙ route_placed (first_object ERO s) (first_object NO-PATH s)

pub unwrap-requires : goal.unwrap-requires
unwrap-requires c =
    let s = c.args.message.now in
    let p = c.requires in
    ap is_some (placed_some c.args.firsts.rp (first_object RP s) (p.firsts_are RP (omega arith)) (has_rp Pcrep s p.verdict))

pub rp_at-rp-requires : goal.rp_at-rp-requires
rp_at-rp-requires c =
    let s = c.args.message.now in
    let p = c.requires in
    let o = object_stands Pcrep s p.right RP (omega arith) (has_rp Pcrep s p.verdict) in
    (p.short, omega (arith, o.long, o.inside, rp-is (goal.at.rp_at-rp-requires c).After-unwrap))

pub issue_of-issue-requires : goal.issue_of-issue-requires
issue_of-issue-requires c =
    let s = c.args.message.now in
    let p = c.requires in
    let at = route-is (goal.at.issue_of-issue-requires c).After-route_at-route in
    (p.short, λ z. for_placed c.args.firsts.no_path (first_object NO-PATH s) (p.firsts_are NO-PATH (omega arith)) (λ (n : ℕ). Stands s n 8) (λ some. no_path_stands s p.right p.verdict (none-placed c.route_at-route.result (route s) at z)))

pub returns : goal.returns
returns c =
    let s = c.args.message.now in
    let p = c.requires in
    let at = route-is (goal.at.returns c).After-route_at-route in
    let np = p.firsts_are NO-PATH (omega arith) in
    let issue = c.issue_of-issue.ensures in
    let request = c.rp_at-rp.ensures in
    let there = no_path_there s p.right p.verdict in
    let found = c.is_some.ensures ∙ ap is_some at ∙ found-is s in
    let nature = issue.nature ∙ ap₂ (nature_by s) at np ∙ nature-is s there in
    let flag = issue.c ∙ ap₂ (c_by s) at np ∙ c-is s there in
    rw (found, nature, flag, request.0, request.1, rp-is (goal.at.returns c).After-unwrap, p.addresses_are, p.counted) refl
