mod Offering
