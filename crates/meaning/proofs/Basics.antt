-- Small laws of tests, texts, outcomes and items. Assumes nothing.
use mathlib.Core.Path.{◌≡◌, refl, sym, subst, ap, ◌∙◌}
use mathlib.Core.Logic.{◌⊎◌, inl, inr}
use mathlib.Core.Bool.{Bool, true, false, ◌||◌, or_assoc}
use mathlib.Core.Option.{Option, none, some}
use mathlib.Core.List.Memᴰ
use mathlib.Core.List.{List, [], ◌∷◌, ◌++◌, Memᴰ}
use Prim.Native.Nat.{ℕ}
use native.Mathlib.Omega.{arith}
use Rattle.octets.specs.Plain.Runs.{same_as}
use Rattle.parse_tree.specs.Plain.Tree.{Text, Nonterminal, Source, Item, item}
use Rattle.parse_tree.specs.Working.Within.{Each}
use Rattle.parse_tree.specs.declared.syntax.Span.{Span}
use Rattle.meaning.specs.Meaning.{is_terminal}

-- ---- tests
pub test : (b : Bool) → (b ≡ true) ⊎ (b ≡ false)
test true = inl refl
test false = inr refl

pub or_cases : (a b : Bool) → (a || b) ≡ true → (a ≡ true) ⊎ (b ≡ true)
or_cases true b h = inl refl
or_cases false b h = inr h

pub some_inj : {A : Type 0} (a b : A) → ◌≡◌ {A = Option A} (some a) (some b) → a ≡ b
some_inj a b e = cc

pub none≢some : {A : Type 0} (a : A) → ◌≡◌ {A = Option A} none (some a) → ⊥
none≢some a e = let z : ◌≡◌ {A = ℕ} 0 1 = cc in omega arith

-- ---- items
pub item_inj : (d e : Nonterminal) → item d ≡ item e → d ≡ e
item_inj d e p = cc

pub item≢terminal : (d : Nonterminal) (s : Span) (o : Source) (t : Text) → item d ≡ Item.terminal s o t → ⊥
item≢terminal d s o t p = let z : ◌≡◌ {A = ℕ} 0 1 = cc in omega arith

pub terminal_append : (a b : List Item) (n : Text) → is_terminal (a ++ b) n ≡ is_terminal a n || is_terminal b n
terminal_append [] b n = refl
terminal_append (item d ∷ a) b n = terminal_append a b n
terminal_append (Item.terminal s o t ∷ a) b n = ap (same_as n t ||◌) (terminal_append a b n) ∙ sym (or_assoc (same_as n t) (is_terminal a n) (is_terminal b n))

-- what holds of each element
pub each_at : {A : Type 0} (P : A → Type 0) (xs : List A) (x : A) → Each P xs → Memᴰ x xs → P x
each_at P [] x h i = absurd (Memᴰ.not-nil i)
each_at P (y ∷ xs) x h (Memᴰ.head e) = subst P (sym e) h.0
each_at P (y ∷ xs) x h (Memᴰ.tail i) = each_at P xs x h.1 i
