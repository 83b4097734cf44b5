-- The listing of an answer, from document 01's section "Cases". Assumes nothing: these are definitions.
use Rattle.std.specs.Prelude.{cond, [], ◌∷◌, ◌++◌}
use Rattle.parse_tree.specs.Plain.Tree.{Text, Action, no_action, user, fallible, lookahead_action, lookbehind_action, Alternative, Nonterminal, Item, item, Stage}
use Rattle.parse_tree.specs.Plain.Texts.{ascii}
use Rattle.parse_tree.specs.Plain.Display.{shown_all}
use Rattle.parse_tree.specs.Plain.WriteTape.{bytes_of_each}
use Rattle.parse_tree.specs.declared.syntax.Span.{Span}
use Rattle.passes.specs.Outcome.{Outcome, yes, no}
use Rattle.passes.specs.Levels.{number_digits}

-- "span as `s-e`"
unfoldable pub shown_span : Span → Text
shown_span s = number_digits s.0 ++ (0x2d ∷ number_digits s.1)

-- "`pub`, `inline` where set, one space between"
unfoldable pub shown_flags : Nonterminal → Text
shown_flags d = cond d.public (ascii " pub") [] ++ cond d.inline (ascii " inline") []

-- "then ` => ` and text (` =>? ` for Fallible, `@L` or `@R` for 3 and 4), nothing for 0"
unfoldable pub shown_action : Action → Text
shown_action no_action = []
shown_action (user t) = ascii " => " ++ t
shown_action (fallible t) = ascii " =>? " ++ t
shown_action lookahead_action = ascii " => @L"
shown_action lookbehind_action = ascii " => @R"

-- "per alternative two spaces, printed symbols separated by one space"
unfoldable pub listed_alternative : Alternative → Text
listed_alternative a = 0x20 ∷ 0x20 ∷ (shown_all a.symbols (0x20 ∷ []) [] ++ (shown_action a.action ++ (0x0a ∷ [])))

-- "Per nonterminal: name, span as `s-e`, `pub`, `inline` where set, one space between"; a terminal is not listed
unfoldable pub listed_item : Item → Text
listed_item (item d) = d.name ++ (0x20 ∷ (shown_span d.span ++ (shown_flags d ++ (0x0a ∷ bytes_of_each listed_alternative d.alternatives))))
listed_item (Item.terminal s o t) = []

-- "A refusal prints `refused`, number, both place numbers on one line, one space between"
unfoldable pub listed : Outcome Stage → Text
listed (yes g) = bytes_of_each listed_item g.items
listed (no n s) = ascii "refused " ++ (number_digits n ++ (0x20 ∷ (number_digits s.0 ++ (0x20 ∷ (number_digits s.1 ++ (0x0a ∷ []))))))
