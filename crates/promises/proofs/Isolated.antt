-- THEOREM `isolated`: of two histories in which guest g is created and its calls are the same, its gets, sets, runs and clock calls are answered the
-- same, and write the same buffers, until it is deleted; for any two sound layouts. Assumes nothing.
pub mod Same
pub mod Aside
pub mod Stores
pub mod Begun
pub mod Calls
use mathlib.Core.Path.{◌≡◌, refl, sym, ap₂, ◌∙◌, subst}
use mathlib.Core.Bool.{Bool, true, false, cond}
use mathlib.Core.List.{List, [], ◌∷◌}
use Prim.Native.Nat.{ℕ}
use borrow.Author.Tests.{eqb-true}
use Rattle.answer.specs.declared.Answer.{Answer}
use Rattle.answer.specs.Answer.{told}
use Rattle.store.specs.declared.Layout.{Layout}
use Rattle.store.specs.Layout.{Sound, small, large}
use Rattle.store.specs.Header.{header, capabilities_of, live}
use Rattle.store.specs.Store.{fresh}
use Rattle.store.proofs.Search.{no_bool}
use Rattle.store.proofs.Sizes.{sound_small, sound_large}
use Rattle.l0.specs.Calls.{Call, GetCapabilities, SetCapabilities, CreateGuest, CreateVcpu, GetState, SetState, RunVcpu, DeleteGuest, GuestClock, outcome, after}
use Rattle.promises.specs.History.{name_of, registers}
use Rattle.promises.specs.Both.{Reply, reply_to}
use Rattle.promises.specs.Isolation.{Created, begun, names, creates_vcpu, is_compared, SideBySide, end, first, second, common, over, replies_for, Isolated}
use Rattle.promises.proofs.Kept.{well_formed_kept, fresh_history}
use Rattle.promises.proofs.Isolated.Same.{SameFor, same_sym, Next, kept, gone, Agree}
use Rattle.promises.proofs.Isolated.Aside.{aside_kept}
use Rattle.promises.proofs.Isolated.Stores.{aside_same}
use Rattle.promises.proofs.Isolated.Begun.{New, created_new, new_same}
use Rattle.promises.proofs.Isolated.Calls.{call_same, create_same}

-- ---- what is listed, call by call
module _ (l : Layout) (g : ℕ) (s : List ℕ) where
  dead_none : live l (header l s) g ≡ false → (cs : List Call) → replies_for l g s cs ≡ []
  unfolding replies_for
  dead_none d [] = refl
  dead_none d (c ∷ cs) = simp d

  module _ (lv : live l (header l s) g ≡ true) (c : Call) (cs : List Call) where
    other_next : names g c ≡ false → replies_for l g s (c ∷ cs) ≡ replies_for l g (outcome l s c).store cs
    unfolding replies_for
    other_next n = simp (lv, n)

    pub own_next : names g c ≡ true → replies_for l g s (c ∷ cs) ≡ cond (is_compared c) (reply_to l s c ∷ replies_for l g (outcome l s c).store cs) (replies_for l g (outcome l s c).store cs)
    unfolding replies_for
    own_next n = simp (lv, n)

-- ---- a call of both histories
module _ (l m : Layout) (so : Sound l) (so' : Sound m) (g : ℕ) where
  record Step (s t : List ℕ) (c : Call) : Type 0 where
    stores : Next l m g (outcome l s c).store (outcome m t c).store
    reply : is_compared c ≡ true → reply_to m t c ≡ reply_to l s c

  agree_step : (s t : List ℕ) (c : Call) → Agree l m g (outcome l s c) (outcome m t c) → Step s t c
  unfolding reply_to registers
  agree_step s t c a =
      record { stores = a.stores; reply = λ i. ap₂ (λ (x : Answer) (b : List ℕ). record { registers = told (name_of c) x.fault x.value; buffer = b }) a.answer a.buffer }

  step : (s t : List ℕ) → SameFor l m g s t → (c : Call) → names g c ≡ true → capabilities_of (header m t) ≡ capabilities_of (header l s)
      → (creates_vcpu c ≡ true → (registers m t c).r3 ≡ (registers l s c).r3) → Step s t c
  step s t f (GetCapabilities flags) n e r = absurd (no_bool n)
  step s t f (SetCapabilities flags bitmap) n e r = absurd (no_bool n)
  step s t f (CreateGuest flags token) n e r = absurd (no_bool n)
  step s t f (CreateVcpu flags guest vcpu) n e r =
      subst (λ (x : ℕ). ((registers m t (CreateVcpu flags x vcpu)).r3 ≡ (registers l s (CreateVcpu flags x vcpu)).r3) → Step s t (CreateVcpu flags x vcpu)) (sym (eqb-true _ _ n))
      (λ q. record { stores = kept (create_same l m so so' g s t f flags vcpu q); reply = λ i. absurd (no_bool i) }) (r refl)
  step s t f (GetState flags guest vcpu b) n e r = agree_step s t _ (call_same l m so so' g s t f e (GetState flags guest vcpu b) n refl)
  step s t f (SetState flags guest vcpu b) n e r = agree_step s t _ (call_same l m so so' g s t f e (SetState flags guest vcpu b) n refl)
  step s t f (RunVcpu flags guest vcpu input output effect exit) n e r = agree_step s t _ (call_same l m so so' g s t f e (RunVcpu flags guest vcpu input output effect exit) n refl)
  step s t f (DeleteGuest flags guest) n e r = agree_step s t _ (call_same l m so so' g s t f e (DeleteGuest flags guest) n refl)
  step s t f (GuestClock guest timebase) n e r = agree_step s t _ (call_same l m so so' g s t f e (GuestClock guest timebase) n refl)

  -- ---- every step keeps the stores the same for the guest, so its replies are the same
  same_replies : {s t : List ℕ} {xs ys : List Call} → SameFor l m g s t → SideBySide l m g s t xs ys → replies_for m g t ys ≡ replies_for l g s xs
  unfolding replies_for
  same_replies f end = refl
  same_replies {s} {t} {ys = ys} f (first {xs = xs} c n d r) =
      let a = aside_kept l so g s f.formed f.alive c n d in
      same_replies (aside_same l m g s (outcome l s c).store t f a (well_formed_kept l so s f.formed c)) r ∙ sym (other_next l g s f.alive c xs n)
  same_replies {s} {t} {xs = xs} f (second {ys = ys} c n d r) =
      let a = aside_kept m so' g t f.formed' f.alive' c n d in
      other_next m g t f.alive' c ys n ∙ same_replies (same_sym (aside_same m l g t (outcome m t c).store s (same_sym f) a (well_formed_kept m so' t f.formed' c))) r
  same_replies {s} {t} f (common {xs = xs} {ys = ys} c n e r rest) =
      own_next m g t f.alive' c ys n ∙ both (is_compared c) refl (onward (step s t f c n e r).stores (λ k. same_replies k rest)) ∙ sym (own_next l g s f.alive c xs n)
    where
      onward : Next l m g (outcome l s c).store (outcome m t c).store
          → (SameFor l m g (outcome l s c).store (outcome m t c).store → replies_for m g (outcome m t c).store ys ≡ replies_for l g (outcome l s c).store xs)
          → replies_for m g (outcome m t c).store ys ≡ replies_for l g (outcome l s c).store xs
      onward (kept k) ih = ih k
      onward (gone a b) ih = dead_none m g (outcome m t c).store b ys ∙ sym (dead_none l g (outcome l s c).store a xs)

      both : (i : Bool) → is_compared c ≡ i → replies_for m g (outcome m t c).store ys ≡ replies_for l g (outcome l s c).store xs
          → cond i (reply_to m t c ∷ replies_for m g (outcome m t c).store ys) (replies_for m g (outcome m t c).store ys)
          ≡ cond i (reply_to l s c ∷ replies_for l g (outcome l s c).store xs) (replies_for l g (outcome l s c).store xs)
      both true i q = ap₂ (λ (x : Reply) (zs : List Reply). x ∷ zs) ((step s t f c n e r).reply i) q
      both false i q = q
  same_replies {s} {t} {xs} {ys} f (over a b) = dead_none m g t b ys ∙ sym (dead_none l g s a xs)

  -- ---- from fresh stores, where the guest is created in both
  begun_new : (n : Layout) → Sound n → (h : Created n g) → New n g (begun n g h)
  begun_new n sn h = subst (λ (x : ℕ). New n x (begun n g h)) h.id (created_new n sn (after n (fresh n) h.before) (fresh_history n sn h.before) h.flags h.token h.accepted)

  pub isolated : Isolated l m g
  isolated h k xs ys side = same_replies (new_same l m g (begun l g h) (begun m g k) (begun_new l so h) (begun_new m so' k)) side

-- of the two sizes: both histories on small stores, both on large ones, or one on each
pub isolated_sizes : (g : ℕ) → Isolated small small g × Isolated large large g × Isolated small large g
isolated_sizes g =
    (isolated small small sound_small sound_small g, isolated large large sound_large sound_large g, isolated small large sound_small sound_large g)
