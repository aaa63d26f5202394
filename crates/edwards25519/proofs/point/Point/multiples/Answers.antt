use Rattle.std.proofs.Common.{◌≡◌, ◌+◌, ◌∙◌, List, [], ◌∷◌, refl, ap, arith}
use Rattle.edwards_model.specs.Curve.{Affine, neutral, multiple}
use Rattle.edwards25519.proofs.Multiples.{AreMultiples, one_more, multiples_at}
use Rattle.edwards25519.proofs.point.Point.multiples.Goals as goal

first : (a b : Affine) → b ≡ neutral → b ≡ multiple 0 a
unfolding multiple
first a b h = h

pub returns : goal.returns
returns c =
    let a = c.args.self.now in
    let e1 = one_more a 0 _ _ (first a _ c.neutral.ensures) c.plus-p1.ensures in
    let e2 = one_more a 1 _ _ e1 c.plus-p2.ensures in
    let e3 = one_more a 2 _ _ e2 c.plus-p3.ensures in
    let e4 = one_more a 3 _ _ e3 c.plus-p4.ensures in
    let e5 = one_more a 4 _ _ e4 c.plus-p5.ensures in
    let e6 = one_more a 5 _ _ e5 c.plus-p6.ensures in
    let e7 = one_more a 6 _ _ e6 c.plus-p7.ensures in
    let e8 = one_more a 7 _ _ e7 c.plus-p8.ensures in
    let e9 = one_more a 8 _ _ e8 c.plus-p9.ensures in
    let e10 = one_more a 9 _ _ e9 c.plus-p10.ensures in
    let e11 = one_more a 10 _ _ e10 c.plus-p11.ensures in
    let e12 = one_more a 11 _ _ e11 c.plus-p12.ensures in
    let e13 = one_more a 12 _ _ e12 c.plus-p13.ensures in
    let e14 = one_more a 13 _ _ e13 c.plus-p14.ensures in
    let e15 = one_more a 14 _ _ e14 c.plus-p15.ensures in
    let ps : List Affine =
    c.neutral-2.result ∷ c.plus-p1.result ∷ c.plus-p2.result ∷ c.plus-p3.result ∷ c.plus-p4.result ∷ c.plus-p5.result ∷ c.plus-p6.result ∷ c.plus-p7.result
    ∷ c.plus-p8.result ∷ c.plus-p9.result ∷ c.plus-p10.result ∷ c.plus-p11.result ∷ c.plus-p12.result ∷ c.plus-p13.result ∷ c.plus-p14.result ∷
    c.plus-p15.result ∷ [] in
    let all : AreMultiples a 0 ps = (
      first a _ c.neutral-2.ensures,
      (
        e1,
        (
          e2,
          (
            e3,
            (
              e4,
              (
                e5,
                (
                  e6,
                  (
                    e7,
                    (
                      e8,
                      (
                        e9,
                        (
                          e10,
                          (
                            e11,
                            (
                              e12,
                              (
                                e13,
                                (
                                  e14,
                                  (
                                    e15,
                                    tt,
                                  ),
                                ),
                              ),
                            ),
                          ),
                        ),
                      ),
                    ),
                  ),
                ),
              ),
            ),
          ),
        ),
      ),
    ) in
    record { count = refl; each = λ k l. multiples_at a 0 ps all k l ∙ ap (λ n. multiple n a) (let o : 0 + k ≡ k = omega arith in o) }
