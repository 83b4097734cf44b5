-- Globals entered one behind another: the cells hold them, and the first that is met again is refused as `check_globals` refuses it. Assumes nothing.
use mathlib.Core.Path.{◌≡◌, refl, sym, ap, ◌∙◌, subst}
use mathlib.Core.Bool.{Bool, true, false, cond}
use mathlib.Core.Option.{Option, none, some}
use mathlib.Core.List.{List, [], ◌∷◌, ◌++◌}
use Prim.Native.Nat.{ℕ, zero, suc, ◌+◌, ◌<◌}
use native.Mathlib.Omega.{arith}
use borrow.Author.Tests.{le-ltb, eq-eqb, ne_eqb, eqb-true, eqb-false}
use lib.Dec.{eqb}
use lib.ListN.{length, get_or}
use Rattle.octets.specs.Working.Choice.{pick}
use Rattle.octets.specs.Plain.Runs.{same_as}
use Rattle.octets.proofs.SameLaws.{same_as-eq, eq_same_as}
use Rattle.parse_tree.specs.Plain.Tree.{Text}
use Rattle.parse_tree.specs.Plain.Texts.{has, number, distinct}
use Rattle.parse_tree.specs.Working.Within.{Each}
use Rattle.parse_tree.specs.declared.syntax.Span.{Span}
use Rattle.parse_tree.proofs.TextLaws.{number-below, text_number, number-text}
use Rattle.texts.specs.declared.Map.{Map}
use Rattle.passes.specs.Outcome.{Outcome, yes, no}
use Rattle.passes.specs.Resolve.{Def, terminal_def, nonterminal_def, argument_def, Global, def_in, kind, met_again, check_globals}
use Rattle.resolve.specs.Cells.{Room, known_at, define_at}
use Rattle.resolve.specs.Commands.{RunEnd, ran, stopped, run_then}
use Rattle.resolve.specs.Globals.{describe}
use Rattle.resolve.proofs.CellsLaws.{known_same, known_other, length_define, Cellwise, cellwise_same, cellwise_then, define_cellwise, Sound, define_sound}

-- ---- definitions as cells
abbrev pub code_of : Def → ℕ
code_of terminal_def = 1
code_of (nonterminal_def n) = n + 2
code_of argument_def = 0

abbrev pub code_of_option : Option Def → ℕ
code_of_option none = 0
code_of_option (some d) = code_of d

-- the cells hold the globals gs
abbrev pub Coded : Map → List Text → List ℕ → List Global → Type 0
Coded m ts w gs = (k : ℕ) → k < length ts → known_at m w k ≡ code_of_option (def_in (get_or ts k []) gs)

-- no argument
abbrev pub Plain : Def → Type 0
Plain terminal_def = Unit {0}
Plain (nonterminal_def n) = Unit {0}
Plain argument_def = ⊥

-- a global has an atom's name, is no argument, and has fewer arguments than a byte can say
pub record Proper (ts : List Text) (g : Global) : Type 0 where
  pub atom : has g.name ts ≡ true
  pub plain : Plain g.def
  pub small : code_of g.def < 512

code_some : (d : Def) → Plain d → 0 < code_of d
code_some terminal_def h = omega arith
code_some (nonterminal_def n) h = omega arith
code_some argument_def h = absurd h

describe-kind : (d : Def) → Plain d → describe (code_of d) ≡ suc (kind d)
unfolding describe pick
describe-kind terminal_def h = refl
describe-kind (nonterminal_def zero) h = refl
describe-kind (nonterminal_def (suc n)) h = rw (le-ltb (suc n + 2) 3 (omega arith)) refl
describe-kind argument_def h = absurd h

eqb_suc : (a b : ℕ) → eqb (suc a) (suc b) ≡ eqb a b
eqb_suc a b = go (eqb a b) refl
  where
    go : (x : Bool) → eqb a b ≡ x → eqb (suc a) (suc b) ≡ eqb a b
    go true e = eq-eqb (suc a) (suc b) (ap suc (eqb-true a b e)) ∙ sym e
    go false e = ne_eqb (suc a) (suc b) (λ z. eqb-false a b e (omega arith)) ∙ sym e

-- ---- globals entered
unfoldable pub declare_by : Map → List ℕ → ℕ → ℕ → Span → RunEnd
declare_by m w k d sp = pick (eqb (known_at m w k) 0) (ran (define_at m w k d)) (pick (eqb (describe d) (describe (known_at m w k))) (stopped 5 sp) (stopped 6 sp))

unfoldable pub entered : Map → List Text → List ℕ → List Global → RunEnd
entered m ts w [] = ran w
entered m ts w (g ∷ gs) = run_then (declare_by m w (number ts g.name) (code_of g.def) g.span) (λ w'. entered m ts w' gs)

then-then : (x : RunEnd) (f g : List ℕ → RunEnd) → run_then (run_then x f) g ≡ run_then x (λ w. run_then (f w) g)
unfolding run_then
then-then (ran w) f g = refl
then-then (stopped q s) f g = refl

pub then_same : (x : RunEnd) (f g : List ℕ → RunEnd) → ((w : List ℕ) → x ≡ ran w → f w ≡ g w) → run_then x f ≡ run_then x g
unfolding run_then
then_same (ran w) f g h = h w refl
then_same (stopped q s) f g h = refl

pub then-ran : (x : RunEnd) → run_then x (λ w. ran w) ≡ x
unfolding run_then
then-ran (ran w) = refl
then-ran (stopped q s) = refl

pub entered_append : (m : Map) (ts : List Text) (gs hs : List Global) (w : List ℕ) → entered m ts w (gs ++ hs) ≡ run_then (entered m ts w gs) (λ w'. entered m ts w' hs)
unfolding entered run_then
entered_append m ts [] hs w = refl
entered_append m ts (g ∷ gs) hs w =
    let x = declare_by m w (number ts g.name) (code_of g.def) g.span in
    then_same x (λ w'. entered m ts w' (gs ++ hs)) (λ w'. run_then (entered m ts w' gs) (λ w₂. entered m ts w₂ hs)) (λ w' e. entered_append m ts gs hs w')
    ∙ sym (then-then x (λ w'. entered m ts w' gs) (λ w'. entered m ts w' hs))

-- entering writes cells only
declare_cellwise : (m : Map) (w : List ℕ) (k d : ℕ) (sp : Span) (w' : List ℕ) → declare_by m w k d sp ≡ ran w' → Cellwise m w w'
unfolding declare_by pick
declare_cellwise m w k d sp w' = go (eqb (known_at m w k) 0) (eqb (describe d) (describe (known_at m w k)))
  where
    ran_inj : (u v : List ℕ) → ran u ≡ ran v → u ≡ v
    ran_inj u v e = cc

    go : (b c : Bool) → pick b (ran (define_at m w k d)) (pick c (stopped 5 sp) (stopped 6 sp)) ≡ ran w' → Cellwise m w w'
    go true c e = rw (← ran_inj (define_at m w k d) w' e) (define_cellwise m w k d)
    go false true e = absurd (let y : ◌≡◌ {A = ℕ} 0 1 = cc in omega arith)
    go false false e = absurd (let y : ◌≡◌ {A = ℕ} 0 1 = cc in omega arith)

pub entered_cellwise : (m : Map) (ts : List Text) (gs : List Global) (w w' : List ℕ) → entered m ts w gs ≡ ran w' → Cellwise m w w'
unfolding entered run_then
entered_cellwise m ts [] w w' e = let z : w ≡ w' = cc in rw (← z) (cellwise_same m w)
entered_cellwise m ts (g ∷ gs) w w' e = go (declare_by m w (number ts g.name) (code_of g.def) g.span) refl (λ w₁ q. entered_cellwise m ts gs w₁ w' q) e
  where
    go : (x : RunEnd) → declare_by m w (number ts g.name) (code_of g.def) g.span ≡ x → ((w₁ : List ℕ) → entered m ts w₁ gs ≡ ran w' → Cellwise m w₁ w')
        → run_then x (λ w₁. entered m ts w₁ gs) ≡ ran w' → Cellwise m w w'
    go (ran w₁) p f q = cellwise_then m w w₁ w' (declare_cellwise m w (number ts g.name) (code_of g.def) g.span w₁ p) (f w₁ q)
    go (stopped n s) p f q = absurd (let y : ◌≡◌ {A = ℕ} 0 1 = cc in omega arith)

-- and leaves each cell the bytes of its number
declare_sound : (m : Map) (w : List ℕ) (k d : ℕ) (sp : Span) (w' : List ℕ) → Room m (length w) → d < 512 → Sound m w → declare_by m w k d sp ≡ ran w' → Sound m w'
unfolding declare_by pick
declare_sound m w k d sp w' r f s = go (eqb (known_at m w k) 0) (eqb (describe d) (describe (known_at m w k)))
  where
    go : (b c : Bool) → pick b (ran (define_at m w k d)) (pick c (stopped 5 sp) (stopped 6 sp)) ≡ ran w' → Sound m w'
    go true c e = let z : define_at m w k d ≡ w' = cc in rw (← z) (define_sound m w r k d (omega arith) s)
    go false true e = absurd (let y : ◌≡◌ {A = ℕ} 0 1 = cc in omega arith)
    go false false e = absurd (let y : ◌≡◌ {A = ℕ} 0 1 = cc in omega arith)

pub entered_sound : (m : Map) (ts : List Text) (gs : List Global) → Each (Proper ts) gs → (w w' : List ℕ) → Room m (length w) → Sound m w → entered m ts w gs ≡ ran w' → Sound m w'
unfolding entered run_then
entered_sound m ts [] u w w' r s e = let z : w ≡ w' = cc in rw (← z) s
entered_sound m ts (g ∷ gs) u w w' r s e = go (declare_by m w (number ts g.name) (code_of g.def) g.span) refl (λ w₁ r₁ s₁ q. entered_sound m ts gs u.1 w₁ w' r₁ s₁ q) e
  where
    go : (x : RunEnd) → declare_by m w (number ts g.name) (code_of g.def) g.span ≡ x → ((w₁ : List ℕ) → Room m (length w₁) → Sound m w₁ → entered m ts w₁ gs ≡ ran w' → Sound m w')
        → run_then x (λ w₁. entered m ts w₁ gs) ≡ ran w' → Sound m w'
    go (ran w₁) p f q =
        f w₁ (omega (arith, (declare_cellwise m w (number ts g.name) (code_of g.def) g.span w₁ p).long)) (declare_sound m w (number ts g.name) (code_of g.def) g.span w₁ r u.0.small s p) q
    go (stopped n sp) p f q = absurd (let y : ◌≡◌ {A = ℕ} 0 1 = cc in omega arith)

-- what entering gs leaves, by what `check_globals` says
abbrev pub Says : Map → List Text → List Global → Outcome (Unit {0}) → RunEnd → Type 0
Says m ts gs (yes u) x = (w : List ℕ) × (x ≡ ran w) × Coded m ts w gs
Says m ts gs (no q sp) x = x ≡ stopped q sp

pub says_as : (m : Map) (ts : List Text) (gs : List Global) (o : Outcome (Unit {0})) (x y : RunEnd) → x ≡ y → Says m ts gs o y → Says m ts gs o x
says_as m ts gs (yes u) x y e (w, p, h) = (w, e ∙ p, h)
says_as m ts gs (no q sp) x y e h = e ∙ h

-- gs behind those before, the last first
abbrev onto : List Global → List Global → List Global
onto before [] = before
onto before (g ∷ gs) = onto (g ∷ before) gs

-- where no name is met again, the order does not matter
abbrev or_else : Option Def → Option Def → Option Def
or_else none o = o
or_else (some d) o = some d

abbrev Yes : Outcome (Unit {0})
Yes = yes tt

met_never : (g : Global) (o : Option Def) (k : Outcome (Unit {0})) → met_again g o k ≡ Yes → (o ≡ none) × (k ≡ Yes)
met_never g none k e = (refl, e)
met_never g (some old) k e = go (eqb (kind g.def) (kind old)) e
  where
    go : (b : Bool) → cond b (no 5 g.span) (no 6 g.span) ≡ Yes → (some old ≡ none) × (k ≡ Yes)
    go true z = absurd (let y : ◌≡◌ {A = ℕ} 0 1 = cc in omega arith)
    go false z = absurd (let y : ◌≡◌ {A = ℕ} 0 1 = cc in omega arith)

def_onto : (n : Text) (gs before : List Global) → check_globals before gs ≡ Yes → def_in n (onto before gs) ≡ or_else (def_in n before) (def_in n gs)
unfolding check_globals
def_onto n [] before e = go (def_in n before)
  where
    go : (o : Option Def) → o ≡ or_else o none
    go none = refl
    go (some x) = refl
def_onto n (g ∷ gs) before e =
    let z = met_never g (def_in g.name before) (check_globals (g ∷ before) gs) e in
    def_onto n gs (g ∷ before) z.1 ∙ go (same_as n g.name) refl z.0
  where
    go : (b : Bool) → same_as n g.name ≡ b → def_in g.name before ≡ none
        → or_else (cond b (some g.def) (def_in n before)) (def_in n gs) ≡ or_else (def_in n before) (cond b (some g.def) (def_in n gs))
    go true q y =
        let x : def_in n before ≡ none = ap (λ (i : Text). def_in i before) (same_as-eq n g.name q) ∙ y in
        sym (ap (λ (o : Option Def). or_else o (some g.def)) x)
    go false q y = refl

-- a definition among the globals is no argument, and fits
pub def_proper : (ts : List Text) (n : Text) (gs : List Global) (d : Def) → Each (Proper ts) gs → def_in n gs ≡ some d → Plain d × (code_of d < 512)
def_proper ts n [] d h e = absurd (let y : ◌≡◌ {A = ℕ} 0 1 = cc in omega arith)
def_proper ts n (g ∷ gs) d h e = go (same_as n g.name) (λ q. def_proper ts n gs d h.1 q) e
  where
    go : (b : Bool) → (def_in n gs ≡ some d → Plain d × (code_of d < 512)) → cond b (some g.def) (def_in n gs) ≡ some d → Plain d × (code_of d < 512)
    go true f q = let z : g.def ≡ d = cc in rw (← z) (h.0.plain, h.0.small)
    go false f q = f q

module _ (m : Map) (ts : List Text) (d : distinct ts ≡ true) (c : m.count ≡ length ts) where
  -- a global more
  module _ (w : List ℕ) (room : Room m (length w)) (before : List Global) (h : Coded m ts w before) (p : Each (Proper ts) before) (g : Global) (u : Proper ts g) where
    abbrev at : ℕ
    at = number ts g.name

    below : at < length ts
    below = number-below ts g.name u.atom

    here : known_at m w at ≡ code_of_option (def_in g.name before)
    here = h at below ∙ ap (λ (x : Text). code_of_option (def_in x before)) (text_number ts g.name u.atom)

    met_again_lem : (old : Def) → def_in g.name before ≡ some old
        → declare_by m w at (code_of g.def) g.span ≡ pick (eqb (kind g.def) (kind old)) (stopped 5 g.span) (stopped 6 g.span)
    unfolding declare_by pick
    met_again_lem old e =
        let q = (def_proper ts g.name before old p e).0 in
        let z : known_at m w at ≡ code_of old = here ∙ ap code_of_option e in
        rw (z, ne_eqb (code_of old) 0 (λ y. omega (arith, code_some old q)), describe-kind g.def u.plain, describe-kind old q, eqb_suc (kind g.def) (kind old)) refl

    abbrev next : List ℕ
    next = define_at m w at (code_of g.def)

    met_first : def_in g.name before ≡ none → declare_by m w at (code_of g.def) g.span ≡ ran next
    unfolding declare_by pick
    met_first e = let z : known_at m w at ≡ 0 = here ∙ ap code_of_option e in rw z refl

    more : Coded m ts next (g ∷ before)
    more k b = go (eqb k at) refl (same_as (get_or ts k []) g.name) refl
      where
        go : (x : Bool) → eqb k at ≡ x → (y : Bool) → same_as (get_or ts k []) g.name ≡ y
            → known_at m next k ≡ code_of_option (cond y (some g.def) (def_in (get_or ts k []) before))
        go true e true f =
            let z = eqb-true k at e in
            rw z (known_same m w room at (code_of g.def) (omega (arith, below)) (omega (arith, u.small)))
        go true e false f =
            let z : get_or ts k [] ≡ g.name = ap (λ (i : ℕ). get_or ts i []) (eqb-true k at e) ∙ text_number ts g.name u.atom in
            absurd (let y : ◌≡◌ {A = ℕ} 0 1 = cc (eq_same_as (get_or ts k []) g.name z) in omega arith)
        go false e true f =
            let z : k ≡ at = sym (number-text ts k d b) ∙ ap (number ts) (same_as-eq (get_or ts k []) g.name f) in
            absurd (eqb-false k at e z)
        go false e false f = known_other m w at (code_of g.def) k (eqb-false k at e) ∙ h k b

  enter-says : (gs before : List Global) (w : List ℕ) → Room m (length w) → Coded m ts w before → Each (Proper ts) before → Each (Proper ts) gs → Says m ts (onto before gs) (check_globals before gs) (entered m ts w gs)
  unfolding check_globals entered pick run_then
  enter-says [] before w r h p q = (w, refl, h)
  enter-says (g ∷ gs) before w r h p q =
      go (def_in g.name before) refl
      (enter-says gs (g ∷ before) (next w r before h p g q.0) (omega (arith, length_define m w (number ts g.name) (code_of g.def))) (more w r before h p g q.0) (q.0, p) q.1)
    where
      fives : (b : Bool) → Says m ts (onto (g ∷ before) gs) (cond b (no 5 g.span) (no 6 g.span)) (run_then (pick b (stopped 5 g.span) (stopped 6 g.span)) (λ w'. entered m ts w' gs))
      fives true = refl
      fives false = refl

      go : (o : Option Def) → def_in g.name before ≡ o
          → Says m ts (onto (g ∷ before) gs) (check_globals (g ∷ before) gs) (entered m ts (next w r before h p g q.0) gs)
          → Says m ts (onto (g ∷ before) gs) (met_again g o (check_globals (g ∷ before) gs)) (run_then (declare_by m w (number ts g.name) (code_of g.def) g.span) (λ w'. entered m ts w' gs))
      go none e i =
          says_as m ts (onto (g ∷ before) gs) (check_globals (g ∷ before) gs) _ _ (ap (λ (x : RunEnd). run_then x (λ w'. entered m ts w' gs)) (met_first w r before h p g q.0 e)) i
      go (some old) e i =
          says_as m ts (onto (g ∷ before) gs) (cond (eqb (kind g.def) (kind old)) (no 5 g.span) (no 6 g.span)) _ _
          (ap (λ (x : RunEnd). run_then x (λ w'. entered m ts w' gs)) (met_again_lem w r before h p g q.0 old e)) (fives (eqb (kind g.def) (kind old)))

  -- what entering gs leaves where nothing was known
  pub entered_says : (gs : List Global) (w : List ℕ) → Room m (length w) → Coded m ts w [] → Each (Proper ts) gs → (o : Outcome (Unit {0})) → check_globals [] gs ≡ o → Says m ts gs o (entered m ts w gs)
  entered_says gs w r h p (yes tt) e =
      let (w', i, k) = subst (λ (x : Outcome (Unit {0})). Says m ts (onto [] gs) x (entered m ts w gs)) e (enter-says gs [] w r h tt p) in
      (w', i, λ j b. k j b ∙ ap code_of_option (def_onto (get_or ts j []) gs [] e))
  entered_says gs w r h p (no q sp) e = subst (λ (x : Outcome (Unit {0})). Says m ts (onto [] gs) x (entered m ts w gs)) e (enter-says gs [] w r h tt p)
