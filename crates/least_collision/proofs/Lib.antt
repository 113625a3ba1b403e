mod Collisions
