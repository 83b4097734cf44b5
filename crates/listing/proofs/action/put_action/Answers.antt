use Rattle.std.proofs.Common.{rules, refl, ◌≡◌, ◌+◌, get_or}
use Rattle.listing.proofs.ActionCode.{acting, action_right}
use Rattle.listing.proofs.action.put_action.Goals as goal

pub returns-in-0 : goal.returns-in-0
returns-in-0 c = search acting

pub returns-in-1 : goal.returns-in-1
returns-in-1 c = search acting

pub returns-in-2 : goal.returns-in-2
returns-in-2 c = search acting

pub returns-in-3 : goal.returns-in-3
returns-in-3 c = search acting

pub returns-in_default : goal.returns-in_default
returns-in_default c =
    let v = get_or c.args.work.now (c.args.at + 11) 0 in
    let n0 : v ≡ 0 → ⊥ = search rules in
    let n1 : v ≡ 1 → ⊥ = search rules in
    let n2 : v ≡ 2 → ⊥ = search rules in
    let n3 : v ≡ 3 → ⊥ = search rules in
    action_right _ _ _ _ _ _ _ v refl _ _ (n0, n1, n2, n3) c.put_slice-in_default.ensures
