-- The product of two bounded factors is bounded, so no bit of it is lost.
use Rattle.std.proofs.Common.{◌≡◌, ◌*◌, ◌^◌, ◌<◌, ◌≤◌, sym, ◌∙◌, subst, mod-eq_of_lt, mul-le-mul, arith}
use Rattle.members.proofs.areas.product.Goals as goal

pub returns : goal.returns
returns g c =
    let wrapped = c.product_in_64_bits.ensures.left_times_right_in_64_bits in
    record {
      left_times_right_in_64_bits = wrapped;
      exact_within_the_bounds = λ left right fit.
          let most : c.args.left * c.args.right ≤ g.row.LEFT * g.row.RIGHT = mul-le-mul left right in
          let below : c.args.left * c.args.right < 2 ^ 64 = omega arith in
          let is : c.product_in_64_bits.result ≡ c.args.left * c.args.right = wrapped ∙ mod-eq_of_lt below in
          (is, subst (λ n. n ≤ g.row.LEFT * g.row.RIGHT) (sym is) most);
    }
