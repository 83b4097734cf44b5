-- What the sinks become by bytes more: a text that a form is held against, a form, a window. Assumes nothing.
use mathlib.Core.Path.{◌≡◌, refl, sym, ap, ◌∙◌}
use mathlib.Core.List.{List, [], ◌∷◌}
use Prim.Native.Nat.{ℕ}
use lib.ListN.{length-drop}
use borrow.Author.Rules.{rules}
use Rattle.std.specs.Borrow.{Bor}
use Rattle.std.specs.Prelude.{Option, Some, None}
use Rattle.parse_tree.specs.Plain.Tree.{Text}
use Rattle.parse_tree.specs.Plain.Display.{print}
use Rattle.texts.specs.declared.Map.{Map}
use Rattle.display.specs.declared.follow.Held.{Held}
use Rattle.display.specs.declared.form.Form.{Form}
use Rattle.display.specs.declared.emit.Spot.{Spot}
use Rattle.display.specs.declared.emit.Window.{Window}
use Rattle.display.specs.Sink.{all_of, Taken, PrintsSymbol}
use Rattle.display.specs.Follow.{met_by, held_more}
use Rattle.display.specs.Form.{more_of, form_from, From}
use Rattle.display.specs.Window.{Emitted, window_more, Fills}
use Rattle.display.proofs.MetLaws.{met_none}
use Rattle.display.proofs.WindowLaws.{then, emitted_none}

-- ---- a text that a form is held against
held_all : (x : Held) (xs : Text) → all_of held_more x xs ≡ record { text = x.text; at = met_by x.text.now x.at xs }
unfolding all_of met_by held_more
held_all x [] = refl
held_all x (b ∷ bs) = held_all (held_more x b) bs

module _ {x : Held} {xs : Text} where
  pub held_some : (i : ℕ) (o : Option ℕ) → x.at ≡ Some i → o ≡ met_by x.text.now (Some i) xs → Taken held_more x xs (record { text = x.text; at = o })
  held_some i o a b = record { is = cc (held_all x xs) }

  pub held_lost : x.at ≡ None → Taken held_more x xs x
  held_lost a =
      let e : x.at ≡ met_by x.text.now x.at xs = a ∙ sym (met_none x.text.now xs) ∙ ap (λ (o : Option ℕ). met_by x.text.now o xs) (sym a) in
      let f : Option ℕ → Held = λ (o : Option ℕ). record { text = x.text; at = o } in
      record { is = ap f e ∙ sym (held_all x xs) }

  module _ {r : Held} (h : Taken held_more x xs r) where
    pub taken_text : r.text ≡ x.text
    taken_text = ap (λ (y : Held). y.text) (h.is ∙ held_all x xs)

    pub taken_at : r.at ≡ met_by x.text.now x.at xs
    taken_at = ap (λ (y : Held). y.at) (h.is ∙ held_all x xs)

-- x holds the text t, of which it met what stands before i
pub record Holding (t : Text) (i : ℕ) (x : Held) : Type 0 where
  pub text : x.text.now ≡ t
  pub at : x.at ≡ Some i

module _ {x r : Held} {xs t : Text} {i : ℕ} (g : Holding t i x) (h : Taken held_more x xs r) where
  pub holding_met : r.at ≡ met_by t (Some i) xs
  holding_met = taken_at h ∙ ap (λ (u : Text). met_by u x.at xs) g.text ∙ ap (λ (o : Option ℕ). met_by t o xs) g.at

  pub holding_next : (j : ℕ) (o : Option ℕ) → o ≡ Some j → Holding t j (record { text = r.text; at = o })
  holding_next j o e = record { text = ap (λ (u : Bor Text). u.now) (taken_text h) ∙ g.text; at = e }

pub ruleset holding = (rules, held_some, held_lost)

-- ---- a form
form_all : (f : Form) (t : Text) → all_of more_of f t ≡ form_from f t
unfolding all_of form_from
form_all f [] = refl
form_all f (b ∷ bs) = form_all (more_of f b) bs

pub form_taken : {f r : Form} {t : Text} → From f t r → Taken more_of f t r
form_taken {f} {r} {t} a = record { is = a.is ∙ sym (form_all f t) }

pub taken_from : {f r : Form} {t : Text} → Taken more_of f t r → From f t r
taken_from {f} {r} {t} a = record { is = a.is ∙ form_all f t }

-- ---- a window
same_spot : {b c j k : ℕ} → b ≡ j → c ≡ k → ◌≡◌ {A = Spot} (record { skip = b; to = c }) (record { skip = j; to = k })
same_spot d e = cc

same_window : {o u : List ℕ} {p q : Spot} → o ≡ u → p ≡ q → ◌≡◌ {A = Window} (record { bytes = o; spot = p }) (record { bytes = u; spot = q })
same_window d e = cc

window_one : (x : Window) (b : ℕ) → Emitted (b ∷ []) x.bytes x.spot (window_more x b).spot (window_more x b).bytes
unfolding window_more
window_one x b = record { skip = refl; bytes = refl; after = refl }

window_all : (x : Window) (xs : List ℕ) → Emitted xs x.bytes x.spot (all_of window_more x xs).spot (all_of window_more x xs).bytes
unfolding all_of
window_all x [] = emitted_none x.bytes x.spot
window_all x (b ∷ bs) = then (window_one x b) (window_all (window_more x b) bs)

module _ {x : Window} {xs : List ℕ} where
  pub taken_emitted : {r : Window} → Taken window_more x xs r → Emitted xs x.bytes x.spot r.spot r.bytes
  taken_emitted h = rw h.is (window_all x xs)

  -- what is emitted decides where it ends
  pub window_taken : (o : List ℕ) (p : Spot) → Emitted xs x.bytes x.spot p o → Taken window_more x xs (record { bytes = o; spot = p })
  window_taken o p a =
      let b = window_all x xs in
      record { is = same_window (a.bytes ∙ sym b.bytes) (same_spot (a.skip ∙ sym b.skip) (a.after ∙ sym b.after)) }

pub ruleset windowing = (rules, window_taken)

pub window_fills : (s w : List ℕ) (m : Map) (wd left a n r : ℕ) (o : List ℕ) (y : Window) → PrintsSymbol window_more s w m wd left a (record { bytes = o; spot = record { skip = n; to = 0 } }) r y → Fills s w m wd left a n o y.spot.to y.bytes
window_fills s w m wd left a n r o y h = record {
  fills = λ four e x st.
      let k = taken_emitted (record { is = (h.each four e x st).1 }) in
      record { bytes = k.bytes; after = rw (length-drop n (print x)) k.after };
}

pub ruleset filling = (rules, window_fills)
