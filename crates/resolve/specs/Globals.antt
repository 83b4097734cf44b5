-- The globals entered in the cells of their names. Assumes nothing: these are definitions.
use Rattle.std.specs.Prelude.{List, ℕ, zero, suc, ◌+◌, ltb, eqb, get_or}
use Rattle.octets.specs.Working.Choice.{pick}
use Rattle.octets.specs.Plain.Numbers.{le_at}
use Rattle.parse_tree.specs.Working.Nodes.{span_in}
use Rattle.texts.specs.declared.Map.{Map}
use Rattle.resolve.specs.declared.Grammar.{Grammar}
use Rattle.resolve.specs.Cells.{known_at, define_at}
use Rattle.resolve.specs.Commands.{RunEnd, ran, stopped, run_then}
use Rattle.resolve.specs.Items.{item_place_in}

-- the kinds: 1 terminal, 2 nonterminal, 3 macro
unfoldable pub describe : ℕ → ℕ
describe d = pick (ltb d 3) d 3

-- what the item at a place, whose code is c, defines its name to be
unfoldable pub declared_at : ℕ → List ℕ → ℕ → ℕ → ℕ
declared_at wd w at c = pick (eqb c 16) (get_or w (at + 10 + wd) 0 + 2) 1

-- the global at a place, defined to be d
unfoldable pub declare_out : Map → ℕ → List ℕ → ℕ → ℕ → RunEnd
declare_out m wd w at d =
    let k = le_at wd w (at + 9) in
    pick (eqb (known_at m w k) 0) (ran (define_at m w k d))
    (pick (eqb (describe d) (describe (known_at m w k))) (stopped 5 (span_in w (at + 1))) (stopped 6 (span_in w (at + 1))))

-- those of one code among n items from the i-th on
unfoldable pub each_out : Map → Grammar → ℕ → ℕ → ℕ → List ℕ → RunEnd
each_out m t which zero i w = ran w
each_out m t which (suc n) i w =
    pick (eqb (get_or w (item_place_in t w i) 0) which)
    (run_then (declare_out m t.width.bytes w (item_place_in t w i) (declared_at t.width.bytes w (item_place_in t w i) which)) (λ w'. each_out m t which n (i + 1) w'))
    (each_out m t which n (i + 1) w)

-- nonterminals, then 30, then 31
unfoldable pub globals_out : Map → Grammar → List ℕ → RunEnd
globals_out m t w =
    run_then (each_out m t 16 t.count 0 w) (λ w₁.
    run_then (each_out m t 48 t.count 0 w₁) (λ w₂.
    each_out m t 49 t.count 0 w₂))
