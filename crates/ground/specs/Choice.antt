-- A choice by a test: how every definition says "if .. , else ..", and how a proof goes by its two cases.
-- Assumes nothing.
use Rattle.std.specs.Prelude.{◌≡◌, refl, Bool, true, false}

-- the first where the test holds, else the second
abbrev pub pick : {A : Type 0} → Bool → A → A → A
pick true x y = x
pick false x y = y

-- what holds of each side under its test holds of the choice
pub pick_elim : {A : Type 0} (P : A → Type 0) (b : Bool) (x y : A) → (b ≡ true → P x) → (b ≡ false → P y) → P (pick b x y)
pick_elim P true x y p q = p refl
pick_elim P false x y p q = q refl
