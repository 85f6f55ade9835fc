-- Where AND and OR of truth values are TRUE.
use Rattle.std.proofs.Common.{◌≡◌, ◌&&◌, ◌||◌, refl}
use Rattle.pt_value.specs.Truth.{greatest, least}
use Rattle.pt_value.specs.declared.truth.Truth.{Truth}
use Rattle.pt_value.specs.declared.truth.Truth.TheVariants.{False, Unknown, True}
use Rattle.pt_reach.specs.May.{is_true}

pub true_either : (a b : Truth) → is_true (greatest a b) ≡ (is_true a || is_true b)
true_either False False = refl
true_either False Unknown = refl
true_either False True = refl
true_either Unknown False = refl
true_either Unknown Unknown = refl
true_either Unknown True = refl
true_either True False = refl
true_either True Unknown = refl
true_either True True = refl

pub true_both : (a b : Truth) → is_true (least a b) ≡ (is_true a && is_true b)
true_both False False = refl
true_both False Unknown = refl
true_both False True = refl
true_both Unknown False = refl
true_both Unknown Unknown = refl
true_both Unknown True = refl
true_both True False = refl
true_both True Unknown = refl
true_both True True = refl
