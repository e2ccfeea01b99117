-- `forms::put_body` meets its contract.
-- Assumes nothing.
use Prim.Native.Nat.{ℕ, ◌+◌, ◌≤◌}
use mathlib.Core.Bool.{Bool}
use mathlib.Core.List.{List, [], ◌∷◌}
use mathlib.Core.Path.{◌≡◌, refl, ap, ap₂, ◌∙◌}
use lib.ListN.{length, take}
use Rattle.values.specs.declared.Value.{Value}
use Rattle.values.specs.declared.Step.{Step}
use Rattle.rules.specs.declared.Row.{Row}
use Rattle.wire.specs.Bytes.{put_at, Written}
use Rattle.wire.specs.declared.Wrote.{Wrote}
use Rattle.wire.proofs.Laws.{fits-written}
use Rattle.wire.proofs.Pieces.{Put}
use Rattle.forms.specs.Short.{uses_who, uses_what, uses_argument, short_value, if_used, body_of, value_size}
use Rattle.forms.proofs.Laws.{next-room, next-put, up_to_who, up_to_what, up_to_argument, room-code, room-who, room-what, room-argument}
use Rattle.forms.proofs.put_body.Goals as goal

-- the code stands
code_put : {b₀ b : List ℕ} {at : ℕ} {w : Wrote} (r : Row) (s : Step) → at + length (body_of r s) ≤ length b₀ → Written b₀ at (s.code ∷ []) w b → Put b₀ at (s.code ∷ []) (at + 1) b
code_put {b₀} {b} {at} {w} r s h e = record { next = refl; bytes = (fits-written _ _ _ _ _ e (room-code r s at (length b₀) h)).2 }

module _ {b₀ b b' : List ℕ} {at n o : ℕ} {u : Bool} (r : Row) (s : Step) (h : at + length (body_of r s) ≤ length b₀) where
  -- and who behind it
  who-put : Put b₀ at (s.code ∷ []) n b → u ≡ uses_who r → o ≡ n + length (if_used u (s.who ∷ [])) → b' ≡ put_at b n (if_used u (s.who ∷ [])) → Put b₀ at (up_to_who r s) o b'
  who-put p e k w = next-put _ _ _ _ _ p (if_used (uses_who r) (s.who ∷ [])) (room-who r s at (length b₀) h) (ap (λ (x : Bool). if_used x (s.who ∷ [])) e) k w

  -- and what
  what-put : Put b₀ at (up_to_who r s) n b → u ≡ uses_what r → o ≡ n + length (if_used u (s.what ∷ [])) → b' ≡ put_at b n (if_used u (s.what ∷ [])) → Put b₀ at (up_to_what r s) o b'
  what-put p e k w = next-put _ _ _ _ _ p (if_used (uses_what r) (s.what ∷ [])) (room-what r s at (length b₀) h) (ap (λ (x : Bool). if_used x (s.what ∷ [])) e) k w

  -- and the argument
  argument-put : {xs : List ℕ} → Put b₀ at (up_to_what r s) n b → u ≡ uses_argument r → xs ≡ short_value s.argument → o ≡ n + length (if_used u xs) → b' ≡ put_at b n (if_used u xs) → Put b₀ at (up_to_argument r s) o b'
  argument-put p e f k w = next-put _ _ _ _ _ p (if_used (uses_argument r) (short_value s.argument)) (room-argument r s at (length b₀) h) (ap₂ if_used e f) k w

-- the bytes of a value at the front of five
value-front : (v : Value) (bs : List ℕ) {n : ℕ} → n ≡ value_size v.kind → take (value_size v.kind) bs ≡ short_value v → take n bs ≡ short_value v
value-front v bs e h = ap (λ (k : ℕ). take k bs) e ∙ h

pub put_used-to-requires : goal.put_used-to-requires
put_used-to-requires c =
    let p₀ = code_put c.args.r c.args.s c.requires c.write.ensures in
    next-room _ _ _ _ _ p₀ (if_used (uses_who c.args.r) (c.args.s.who ∷ [])) (room-who c.args.r c.args.s c.args.at (length c.args.buf.now) c.requires) (ap (λ (u : Bool). if_used u (c.args.s.who ∷ [])) c.uses_who.ensures)

pub put_used-to-requires-2 : goal.put_used-to-requires-2
put_used-to-requires-2 c =
    let p₀ = code_put c.args.r c.args.s c.requires c.write.ensures in
    let p₁ = who-put c.args.r c.args.s c.requires p₀ c.uses_who.ensures c.put_used-to.ensures.value c.put_used-to.ensures.buf_after in
    next-room _ _ _ _ _ p₁ (if_used (uses_what c.args.r) (c.args.s.what ∷ [])) (room-what c.args.r c.args.s c.args.at (length c.args.buf.now) c.requires) (ap (λ (u : Bool). if_used u (c.args.s.what ∷ [])) c.uses_what.ensures)

pub put_used-to-requires-3 : goal.put_used-to-requires-3
put_used-to-requires-3 c =
    let p₀ = code_put c.args.r c.args.s c.requires c.write.ensures in
    let p₁ = who-put c.args.r c.args.s c.requires p₀ c.uses_who.ensures c.put_used-to.ensures.value c.put_used-to.ensures.buf_after in
    let p₂ = what-put c.args.r c.args.s c.requires p₁ c.uses_what.ensures c.put_used-to-2.ensures.value c.put_used-to-2.ensures.buf_after in
    next-room _ _ _ _ _ p₂ (if_used (uses_argument c.args.r) (short_value c.args.s.argument)) (room-argument c.args.r c.args.s c.args.at (length c.args.buf.now) c.requires) (ap₂ if_used c.uses_argument.ensures (value-front _ _ c.value_size.ensures c.value_bytes-argument.ensures))

pub returns : goal.returns
returns c =
    let p₀ = code_put c.args.r c.args.s c.requires c.write.ensures in
    let p₁ = who-put c.args.r c.args.s c.requires p₀ c.uses_who.ensures c.put_used-to.ensures.value c.put_used-to.ensures.buf_after in
    let p₂ = what-put c.args.r c.args.s c.requires p₁ c.uses_what.ensures c.put_used-to-2.ensures.value c.put_used-to-2.ensures.buf_after in
    let p₃ = argument-put c.args.r c.args.s c.requires p₂ c.uses_argument.ensures (value-front _ _ c.value_size.ensures c.value_bytes-argument.ensures) c.put_used-to-3.ensures.value c.put_used-to-3.ensures.buf_after in
    let claim = value-front _ _ c.value_size-2.ensures c.value_bytes-claim.ensures in
    let room = next-room _ _ _ _ _ p₃ (short_value c.args.s.claim) c.requires claim in
    (next-put _ _ _ _ _ p₃ (short_value c.args.s.claim) c.requires claim refl (fits-written _ _ _ _ _ c.write-2.ensures room).2).bytes
