use Rattle.std.proofs.Common.{rules, ◌≡◌}
use Rattle.resolve.specs.Commands.{stays, becomes}
use Rattle.resolve.proofs.CommandsCode.{stays_by, becomes_by, asking}
use Rattle.resolve.proofs.commands.asked.Goals as goal

pub returns-in-20 : goal.returns-in-20
returns-in-20 c = let k : c.map.result ≡ stays c.validate_condition.result = stays_by _ (λ x o p. search (rules, p)) _ _ c.map.ensures.cases in search asking

pub returns-in-32 : goal.returns-in-32
returns-in-32 c = let k : c.map-in-32.result ≡ becomes c.rewrite_ambiguous_id.result = becomes_by _ (λ x o p. search (rules, p)) _ _ c.map-in-32.ensures.cases in search asking

pub returns-in-36 : goal.returns-in-36
returns-in-36 c = let k : c.map-in-36.result ≡ stays c.validate_nonterminal.result = stays_by _ (λ x o p. search (rules, p)) _ _ c.map-in-36.ensures.cases in search asking

pub returns-in-37 : goal.returns-in-37
returns-in-37 c = let k : c.map-in-37.result ≡ stays c.validate_macro.result = stays_by _ (λ x o p. search (rules, p)) _ _ c.map-in-37.ensures.cases in search asking

pub returns-in_default : goal.returns-in_default
returns-in_default c = search asking
