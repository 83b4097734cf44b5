-- What a name was found to be among an item's arguments and the globals. Assumes nothing.
use mathlib.Core.Path.{◌≡◌, refl, sym, subst}
use mathlib.Core.Logic.{◌⊎◌, inl, inr}
use Prim.Native.Nat.{ℕ}
use mathlib.Core.List.{List, [], ◌∷◌, ◌++◌, Memᴰ}
use mathlib.Core.Option.{some}
use mathlib.Core.Bool.{Bool, true, false, cond, ◌||◌}
use mathlib.Mathlib.Data.Bool.Basic.{or_inr}
use lib.ListN.{length}
use Rattle.octets.specs.Plain.Runs.{same_as}
use Rattle.octets.proofs.SameLaws.{same_as-eq}
use Rattle.parse_tree.specs.Plain.Tree.{Text, Nonterminal, Item, item, extern, match}
use Rattle.parse_tree.specs.Plain.Texts.{has}
use Rattle.passes.specs.Outcome.{Tree}
use Rattle.meaning.specs.Meaning.{is_terminal}
use Rattle.passes.specs.Resolve.{Def, terminal_def, nonterminal_def, argument_def, Global, nonterminals, externs, matches, globals, def_in, lookup}
use Rattle.meaning.proofs.Basics.{some_inj, none≢some}

def_in-append : (n : Text) (xs ys : List Global) (o : Def) → def_in n (xs ++ ys) ≡ some o → (def_in n xs ≡ some o) ⊎ (def_in n ys ≡ some o)
def_in-append n [] ys o e = inr e
def_in-append n (x ∷ xs) ys o e = go (same_as n x.name) e (def_in-append n xs ys o)
  where
    go : (b : Bool) → cond b (some x.def) (def_in n (xs ++ ys)) ≡ some o → (def_in n (xs ++ ys) ≡ some o → (def_in n xs ≡ some o) ⊎ (def_in n ys ≡ some o))
        → (cond b (some x.def) (def_in n xs) ≡ some o) ⊎ (def_in n ys ≡ some o)
    go true q k = inl q
    go false q k = k q

-- a nonterminal of G named n, with as many arguments as o says
abbrev NonterminalFound : Tree → Text → Def → Type 0
NonterminalFound G n o = (d : Nonterminal) × Memᴰ (item d) G × (d.name ≡ n) × (o ≡ nonterminal_def (length d.args))

found_later : (x : Item) (rest : Tree) (n : Text) (o : Def) → NonterminalFound rest n o → NonterminalFound (x ∷ rest) n o
found_later x rest n o (d, i, p, r) = (d, Memᴰ.tail i, p, r)

found_nonterminal : (G : Tree) (n : Text) (o : Def) → def_in n (nonterminals G) ≡ some o → NonterminalFound G n o
found_nonterminal [] n o e = absurd (none≢some o e)
found_nonterminal (item d ∷ rest) n o e = go (same_as n d.name) refl e (found_nonterminal rest n o)
  where
    go : (b : Bool) → same_as n d.name ≡ b → cond b (some (nonterminal_def (length d.args))) (def_in n (nonterminals rest)) ≡ some o
        → (def_in n (nonterminals rest) ≡ some o → NonterminalFound rest n o) → NonterminalFound (item d ∷ rest) n o
    go true t q k = (d, Memᴰ.head refl, sym (same_as-eq n d.name t), sym (some_inj _ o q))
    go false t q k = found_later (item d) rest n o (k q)
found_nonterminal (Item.terminal s r t ∷ rest) n o e = found_later (Item.terminal s r t) rest n o (found_nonterminal rest n o e)

abbrev TerminalFound : Tree → Text → Def → Type 0
TerminalFound G n o = (o ≡ terminal_def) × (is_terminal G n ≡ true)

-- the same step for externs and matches
found_here : (n t : Text) (rest : Tree) (gs : List Global) (o : Def) → cond (same_as n t) (some terminal_def) (def_in n gs) ≡ some o → (def_in n gs ≡ some o → TerminalFound rest n o)
    → (o ≡ terminal_def) × (same_as n t || is_terminal rest n ≡ true)
found_here n t rest gs o e k = go (same_as n t) e
  where
    go : (b : Bool) → cond b (some terminal_def) (def_in n gs) ≡ some o → (o ≡ terminal_def) × (b || is_terminal rest n ≡ true)
    go true q = (sym (some_inj _ o q), refl)
    go false q = k q

found_further : (n t : Text) (rest : Tree) (o : Def) → TerminalFound rest n o → (o ≡ terminal_def) × (same_as n t || is_terminal rest n ≡ true)
found_further n t rest o (p, q) = (p, or_inr (same_as n t) (is_terminal rest n) q)

found_extern : (G : Tree) (n : Text) (o : Def) → def_in n (externs G) ≡ some o → TerminalFound G n o
found_extern [] n o e = absurd (none≢some o e)
found_extern (item d ∷ rest) n o e = found_extern rest n o e
found_extern (Item.terminal s extern t ∷ rest) n o e = found_here n t rest (externs rest) o e (found_extern rest n o)
found_extern (Item.terminal s match t ∷ rest) n o e = found_further n t rest o (found_extern rest n o e)

found_match : (G : Tree) (n : Text) (o : Def) → def_in n (matches G) ≡ some o → TerminalFound G n o
found_match [] n o e = absurd (none≢some o e)
found_match (item d ∷ rest) n o e = found_match rest n o e
found_match (Item.terminal s extern t ∷ rest) n o e = found_further n t rest o (found_match rest n o e)
found_match (Item.terminal s match t ∷ rest) n o e = found_here n t rest (matches rest) o e (found_match rest n o)

module _ (G : Tree) (ps : List Text) (n : Text) where
  -- what a name was found to be
  pub data Found : Def → Type 0 where
    f_argument : has n ps ≡ true → Found argument_def
    f_terminal : has n ps ≡ false → is_terminal G n ≡ true → Found terminal_def
    f_nonterminal : {k : ℕ} → has n ps ≡ false → (d : Nonterminal) → Memᴰ (item d) G → d.name ≡ n → k ≡ length d.args → Found (nonterminal_def k)

  of_terminal : (o : Def) → has n ps ≡ false → TerminalFound G n o → Found o
  of_terminal o t (p, q) = subst Found (sym p) (f_terminal t q)

  of_terminals : (o : Def) → has n ps ≡ false → (def_in n (externs G) ≡ some o) ⊎ (def_in n (matches G) ≡ some o) → Found o
  of_terminals o t (inl q) = of_terminal o t (found_extern G n o q)
  of_terminals o t (inr q) = of_terminal o t (found_match G n o q)

  of_global : (o : Def) → has n ps ≡ false → (def_in n (nonterminals G) ≡ some o) ⊎ (def_in n (externs G ++ matches G) ≡ some o) → Found o
  of_global o t (inl q) = let (d, i, p, r) = found_nonterminal G n o q in subst Found (sym r) (f_nonterminal t d i p refl)
  of_global o t (inr q) = of_terminals o t (def_in-append n (externs G) (matches G) o q)

  pub found : (o : Def) → lookup G ps n ≡ some o → Found o
  found o e = go (has n ps) refl e
    where
      go : (b : Bool) → has n ps ≡ b → cond b (some argument_def) (def_in n (globals G)) ≡ some o → Found o
      go true t q = subst Found (some_inj _ o q) (f_argument t)
      go false t q = of_global o t (def_in-append n (nonterminals G) (externs G ++ matches G) o q)
